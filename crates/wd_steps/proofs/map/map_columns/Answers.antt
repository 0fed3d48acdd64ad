use Rattle.std.proofs.Common.{◌≡◌, ◌∙◌, ℕ, ◌<◌, ◌≤◌, List, length, map, take, arith, rules, Ok, Err, Option, ap, subst, sym}
use Rattle.std.proofs.lemmas.List.{map_push, take_all}
use Rattle.wd_value.specs.Rows.{Row, rows_of}
use Rattle.wd_value.specs.declared.value.Fault.{Fault}
use Rattle.wd_column_store.specs.Along.{rows_along}
use Rattle.wd_plan.specs.declared.expression.Expr.{Expr}
use Rattle.wd_plan.specs.Expressions.{Expression, expression_of, value_of}
use Rattle.wd_plan.specs.Faults.{all_ok, unless}
use Rattle.wd_plan.specs.Outcomes.{map_outcome}
use Rattle.wd_steps.proofs.Results.{IsGathered, IsGathered-more_ok, IsGathered-more_err, map-map_more}
use Rattle.wd_steps.proofs.Transposed.{by_columns}
use Rattle.wd_steps.proofs.map.map_columns.Goals as goal

pub loop-output-preserved : goal.loop-output-preserved
loop-output-preserved c =
    let i = c.loop-output.output-index in
    let outputs = c.args.outputs.now in
    let within : i < length outputs = omega arith in
    let output = c.output-item.result in
    let column = λ (e : Expression). all_ok (map (value_of e) c.args.rows.now) in
    let more = map-map_more column expression_of outputs i output within c.output-item.is in
    elim c.match-branch-3.branch [
      | goal.in-Ok+in_ok-push-in-Ok w ↦ (
          let is : column (expression_of output) ≡ Ok w.in-Ok.column.items = search rules in
          let grown = ap (λ v. rows_of v.items) w.columns-is ∙ ap rows_of w.in_ok-push-in-Ok.ensures.items ∙ map_push (λ v. v.items) c.loop-output.columns.items w.in-Ok.column in
          IsGathered-more_ok (column (expression_of output)) c.loop-output.invariant more w.in-Ok.column.items is grown w.fault-is)
      | goal.in-Err w ↦ (
          let is : column (expression_of output) ≡ Err w.in-Err.found = search rules in
          IsGathered-more_err (column (expression_of output)) c.loop-output.invariant more w.in-Err.found is (ap (λ v. rows_of v.items) w.columns-is) (w.fault-is ∙ w.with_fault.ensures))
    ]

at_end : (outputs : List Expr) (rows columns : List Row) (i : ℕ) (fault : Option Fault) → length outputs ≤ i → IsGathered (map (λ e. all_ok (map (value_of e) rows)) (map expression_of (take i outputs))) columns fault
    → unless fault (rows_along columns (length rows)) ≡ map_outcome (map expression_of outputs) rows
at_end outputs rows columns i fault all so_far =
    by_columns (map expression_of outputs) rows columns fault
    (subst (λ os. IsGathered (map (λ e. all_ok (map (value_of e) rows)) (map expression_of os)) columns fault) (take_all i outputs all) so_far)

pub returns-in-None : goal.returns-in-None
returns-in-None c =
    let rows = c.args.rows.now in
    let all : length c.args.outputs.now ≤ c.loop-output.output-index = omega arith in
    let columns = rows_of c.loop-output.columns.items in
    ap Ok (c.new.ensures ∙ ap (rows_along columns) c.len.ensures)
    ∙ sym (ap (λ o. unless o (rows_along columns (length rows))) c.in-None.is)
    ∙ at_end c.args.outputs.now rows columns c.loop-output.output-index c.loop-output.fault all c.loop-output.invariant

pub returns-in-Some : goal.returns-in-Some
returns-in-Some c =
    let rows = c.args.rows.now in
    let all : length c.args.outputs.now ≤ c.loop-output.output-index = omega arith in
    let columns = rows_of c.loop-output.columns.items in
    sym (ap (λ o. unless o (rows_along columns (length rows))) c.in-Some.is)
    ∙ at_end c.args.outputs.now rows columns c.loop-output.output-index c.loop-output.fault all c.loop-output.invariant
