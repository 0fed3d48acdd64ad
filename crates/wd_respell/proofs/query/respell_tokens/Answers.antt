use Rattle.std.proofs.Common.{IfNone, subst}
use Rattle.wd_casts.specs.Decimals.{with_literals}
use Rattle.wd_schema.specs.Schemas.{schema_of}
use Rattle.wd_with.specs.Expanded.{Said}
use Rattle.wd_respell.specs.Respelled.{AreGiven}
use Rattle.wd_respell.proofs.LeftFacts.{left_unequated}
use Rattle.wd_respell.proofs.query.respell_tokens.Goals as goal

pub returns-in-None-clause-left : goal.returns-in-None-clause-left
returns-in-None-clause-left c =
    let tables = schema_of c.args.schema.now in
    let tokens = with_literals c.args.query.now c.args.tokens.now in
    left_unequated tables c.args.statements.now c.args.query.now c.args.text.now c.args.tokens.now c.requires.masked c.requires.lexed
    (subst (λ o. IfNone o ((e : Said) → AreGiven tables c.args.statements.now tokens e → ⊥)) c.in-None.is c.in_ok-equated.ensures.none)
