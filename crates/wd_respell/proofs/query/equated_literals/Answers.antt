use Rattle.std.proofs.Common.{◌∙◌, IfNone, IfOk, List, subst}
use Rattle.wd_lex.specs.declared.token.Token.{Token}
use Rattle.wd_schema.specs.Schemas.{schema_of}
use Rattle.wd_with.specs.Expanded.{Said}
use Rattle.wd_respell.specs.Respelled.{AreGiven}
use Rattle.wd_respell.proofs.query.equated_literals.Goals as goal

pub returns-clause-none : goal.returns-clause-none
returns-clause-none c =
    let None_of : List Token → Type 0 = λ tokens. IfOk c.without_any_casts.result (λ o. IfNone o ((e : Said) → AreGiven (schema_of c.args.schema.now) c.args.statements.now tokens e → ⊥)) in
    subst None_of (c.deref.ensures.value ∙ c.in_ok-literals.ensures) c.without_any_casts.ensures.none
