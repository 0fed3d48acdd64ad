use Rattle.std.proofs.Common.{List, Some, Ok, IfSome, sym, subst}
use Rattle.std.proofs.lemmas.Option.{IfSome_then}
use Rattle.wd_value.specs.Rows.{Row}
use Rattle.wd_eval.specs.Tied.{turned_at}
use Rattle.wd_eval.specs.Turning.{IsStepUnder}
use Rattle.wd_trail.proofs.turned.own_turned.Goals as goal

pub returns-in_ok-found-in_default : goal.returns-in_ok-found-in_default
returns-in_ok-found-in_default c = λ step below is given. (
    let IsTurned : List Row → Type 0 = λ r. IsStepUnder step c.args.input.now (Some (turned_at c.args.turn c.args.class)) (Ok r) in
    subst (λ o. IfSome o IsTurned) (sym c.compared.ensures) (IfSome_then c.in_ok-found-in_default.found {Q = IsTurned} c.in_ok-found-in_default.ensures (λ r h. h step below is)))
