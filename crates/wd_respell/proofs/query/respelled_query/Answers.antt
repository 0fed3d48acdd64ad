use Rattle.std.proofs.Common.{◌≡◌, ◌⊎◌, IfNone, List, subst}
use Rattle.wd_lex.specs.Lexed.{kinds_of}
use Rattle.wd_lex.specs.declared.token.Token.{Token}
use Rattle.wd_schema.specs.Schemas.{schema_of}
use Rattle.wd_token_text.specs.Texts.{AreWritable}
use Rattle.wd_with.specs.Expanded.{said}
use Rattle.wd_respell.proofs.LeftFacts.{left_unwritten}
use Rattle.wd_respell.proofs.query.respelled_query.Goals as goal

abbrev Why : List Token → List Token → Type 0
Why tokens others = (kinds_of others ≡ kinds_of tokens) ⊎ (AreWritable others → ⊥)

pub returns-clause-left : goal.returns-clause-left
returns-clause-left c =
    let tokens = c.args.tokens.now in
    let none : Why tokens c.deref.result.now = subst (λ o. IfNone o (Why tokens c.deref.result.now)) c.in-None.is c.in_ok-text.ensures.none in
    left_unwritten (schema_of c.args.schema.now) c.args.statements.now c.args.query.now c.args.masked_text.now tokens (said c.args.equated) c.requires.masked c.requires.lexed c.requires.equated
    (subst (Why tokens) c.deref.ensures.value none)
