use Rattle.std.proofs.Common.{◌≡◌, ◌∙◌, Ok, map, sym, ap}
use Rattle.wd_value.specs.Rows.{columns_of}
use Rattle.wd_plan.specs.Expressions.{Column, expression_of}
use Rattle.wd_plan.specs.Outcomes.{map_outcome}
use Rattle.wd_joined.specs.Pairs.{rows_paired}
use Rattle.wd_nodes.proofs.Selected.{columns_outcome}
use Rattle.wd_nodes.proofs.step.map_apart.Goals as goal

pub returns-in_ok-picked-in-Some : goal.returns-in_ok-picked-in-Some
returns-in_ok-picked-in-Some c = λ instance. (
    let rows = rows_paired c.args.left.now c.args.right.now c.args.pairs.now in
    let columns = c.in-Some.columns.items in
    let found = rw c.in-Some.is at c.in_ok-columns.ensures.columns in
    let shown : map expression_of c.args.outputs.now ≡ map Column columns = found in
    c.from_columns.ensures instance
    ∙ ap Ok (c.in_ok-picked-in-Some.ensures ∙ ap (λ cs. map (columns_of cs) rows) c.deref.ensures.value)
    ∙ sym (columns_outcome columns rows)
    ∙ ap (λ outputs. map_outcome outputs rows) (sym shown))
