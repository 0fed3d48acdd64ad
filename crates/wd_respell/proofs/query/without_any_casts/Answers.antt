use Rattle.std.proofs.Common.{Option, Some, None, IfNone, IfSome, List, sym, subst}
use Rattle.wd_dialect_read.specs.declared.said.Statement.{Statement}
use Rattle.wd_lex.specs.declared.token.Token.{Token}
use Rattle.wd_schema.specs.Schemas.{schema_of}
use Rattle.wd_schema.specs.Tables.{TableRule}
use Rattle.wd_with.specs.Expanded.{Said}
use Rattle.wd_respell.specs.Respelled.{AreGiven, AreUncast, IsEquated, IsShortWay}
use Rattle.wd_respell.proofs.LeftFacts.{not_equated}
use Rattle.wd_respell.proofs.query.without_any_casts.Goals as goal

none_given : {X : Type 0} (tables : List TableRule) (statements : List Statement) (tokens uncast : List Token) (found : Option X) → AreUncast statements tokens uncast
    → IfNone found ((e : Said) → IsShortWay tables statements uncast → IsEquated tables statements uncast e → ⊥) → IfNone found ((e : Said) → AreGiven tables statements tokens e → ⊥)
none_given tables statements tokens uncast (Some x) is none = tt
none_given tables statements tokens uncast None is none = λ e given. not_equated tables statements tokens uncast e is none given

pub returns-in_ok-found-in-Some-clause-none : goal.returns-in_ok-found-in-Some-clause-none
returns-in_ok-found-in-Some-clause-none c =
    let statements = c.args.statements.now in
    let tokens = c.args.tokens.now in
    let is : AreUncast statements tokens c.in-Some.uncast.items = subst (λ o. IfSome o (λ found. AreUncast statements tokens found.items)) c.in-Some.is c.in_ok-uncast.ensures.uncast in
    none_given (schema_of c.args.schema.now) statements tokens c.deref.result.now c.in_ok-found-in-Some.found (subst (AreUncast statements tokens) (sym c.deref.ensures.value) is)
    c.in_ok-found-in-Some.ensures.none
