use Rattle.std.proofs.Common.{◌≡◌, ◌<◌, [], length, map, take, arith, rules, Ok, Err, ap, ◌∙◌}
use Rattle.std.proofs.lemmas.List.{map_push, take_more}
use Rattle.wd_value.specs.Rows.{row_at}
use Rattle.wd_plan.specs.Expressions.{expression_of, value_of}
use Rattle.wd_steps.proofs.Results.{IsGathered-more_ok, IsGathered-more_err}
use Rattle.wd_steps.proofs.map.evaluated_column.Goals as goal

pub loop-position-preserved : goal.loop-position-preserved
loop-position-preserved c =
    let i = c.loop-position.position in
    let rows = c.args.rows.now in
    let within : i < length rows = omega arith in
    let value = value_of (expression_of c.args.output.now) in
    let row = row_at rows i in
    let more = ap (map value) (take_more rows i [] within) ∙ map_push value (take i rows) row in
    elim c.match-branch-3.branch [
      | goal.in-Ok+in_ok-push-in-Ok w ↦ (
          let is : value row ≡ Ok w.in-Ok.value = search rules in
          IsGathered-more_ok (value row) c.loop-position.invariant more w.in-Ok.value is (ap (λ v. v.items) w.values-is ∙ w.in_ok-push-in-Ok.ensures.items) w.fault-is)
      | goal.in-Err w ↦ (
          let is : value row ≡ Err w.in-Err.found = search rules in
          IsGathered-more_err (value row) c.loop-position.invariant more w.in-Err.found is (ap (λ v. v.items) w.values-is) (w.fault-is ∙ w.with_fault.ensures))
    ]
