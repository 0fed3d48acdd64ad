use Rattle.std.proofs.Common.{◌≡◌, List, IfSome, Some, option_map, sym, ap, subst}
use Rattle.std.proofs.lemmas.Option.{IfSome_then}
use Rattle.wd_value.specs.Rows.{Row}
use Rattle.wd_plan.specs.Expressions.{expression_of}
use Rattle.wd_trail.specs.Trails.{IsJoinOver, rows_shown}
use Rattle.wd_trail.proofs.turned.right_changed.Goals as goal

pub returns-in-Same : goal.returns-in-Same
returns-in-Same c = λ right given. (right, ap (rows_shown right) c.in-Same.is, given)

pub returns-in_ok-found-in-Rows : goal.returns-in_ok-found-in-Rows
returns-in_ok-found-in-Rows c = λ right given. (
    let condition = option_map expression_of c.args.condition.now in
    let left = c.args.left.now in
    let IsOver : List Row → Type 0 = λ r. (rows : List Row) × (rows_shown right c.args.change ≡ Some rows) × IsJoinOver condition left rows r in
    let found : IfSome c.in_ok-found-in-Rows.found IsOver = IfSome_then c.in_ok-found-in-Rows.found c.in_ok-found-in-Rows.ensures (λ r h. (c.in-Rows.rows, ap (rows_shown right) c.in-Rows.is, h)) in
    subst (λ o. IfSome o IsOver) (sym c.compared.ensures) found)
