use Rattle.std.proofs.Common.{◌≡◌, List, None, Ok, IfSome, Some, sym, ap, subst}
use Rattle.std.proofs.lemmas.Option.{IfSome_then}
use Rattle.wd_value.specs.Rows.{Row}
use Rattle.wd_eval.specs.Turning.{IsStepUnder}
use Rattle.wd_trail.specs.Trails.{rows_shown}
use Rattle.wd_trail.proofs.turned.step_over.Goals as goal

pub returns-in-Same : goal.returns-in-Same
returns-in-Same c = λ step below input is given. (input, ap (rows_shown input) c.in-Same.is, given)

pub returns-in_ok-found-in-Rows : goal.returns-in_ok-found-in-Rows
returns-in_ok-found-in-Rows c = λ step below input is given. (
    let IsOver : List Row → Type 0 = λ r. (rows : List Row) × (rows_shown input c.args.change ≡ Some rows) × IsStepUnder step rows None (Ok r) in
    let found : IfSome c.in_ok-found-in-Rows.found IsOver = IfSome_then c.in_ok-found-in-Rows.found c.in_ok-found-in-Rows.ensures (λ r h. (c.in-Rows.rows, ap (rows_shown input) c.in-Rows.is, h step below is)) in
    subst (λ o. IfSome o IsOver) (sym c.compared.ensures) found)
