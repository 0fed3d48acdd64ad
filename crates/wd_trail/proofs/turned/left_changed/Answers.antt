use Rattle.std.proofs.Common.{◌≡◌, List, IfSome, Some, option_map, sym, ap, ◌∙◌, subst}
use Rattle.std.proofs.lemmas.Option.{IfSome_then}
use Rattle.wd_value.specs.Rows.{Row}
use Rattle.wd_plan.specs.Expressions.{expression_of}
use Rattle.wd_trail.specs.Trails.{IsJoinOver, rows_shown}
use Rattle.wd_trail.proofs.turned.left_changed.Goals as goal

pub returns-in-Same : goal.returns-in-Same
returns-in-Same c = λ left given. (left, ap (rows_shown left) c.in-Same.is, given)

pub returns-in_ok-found-in-Rows : goal.returns-in_ok-found-in-Rows
returns-in_ok-found-in-Rows c = λ left given. (
    let condition = option_map expression_of c.args.condition.now in
    let right = c.args.right.now in
    let copied : c.in_ok-right-in-Rows.right ≡ right = c.in_ok-right-in-Rows.ensures ∙ c.source.ensures in
    let IsOver : List Row → Type 0 = λ r. (rows : List Row) × (rows_shown left c.args.change ≡ Some rows) × IsJoinOver condition rows right r in
    let found : IfSome c.in_ok-found-in-Rows.found IsOver = IfSome_then c.in_ok-found-in-Rows.found c.in_ok-found-in-Rows.ensures (λ r h. (c.in-Rows.rows, ap (rows_shown left) c.in-Rows.is, subst (λ rs. IsJoinOver condition c.in-Rows.rows rs r) copied h)) in
    subst (λ o. IfSome o IsOver) (sym c.compared.ensures) found)
