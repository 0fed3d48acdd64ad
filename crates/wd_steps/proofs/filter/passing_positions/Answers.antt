use Rattle.std.proofs.Common.{◌≡◌, ◌<◌, ◌≤◌, length, arith, rules, ap, ◌∙◌, subst, sym}
use Rattle.std.proofs.lemmas.Result.{IfOk-weaker}
use Rattle.wd_column_store.specs.Moves.{AreDifferent, AreWithin}
use Rattle.wd_value.specs.Rows.{row_at}
use Rattle.wd_plan.specs.Expressions.{expression_of, value_of}
use Rattle.wd_plan.specs.Outcomes.{passes}
use Rattle.wd_steps.specs.Faults.{with_result}
use Rattle.wd_steps.proofs.Filtering.{passing_all, passing_dropped, passing_kept}
use Rattle.wd_steps.proofs.Rising.{are_different, are_within}
use Rattle.wd_steps.proofs.filter.passing_positions.Goals as goal

pub loop-i-preserved : goal.loop-i-preserved
loop-i-preserved c =
    let condition = expression_of c.args.condition.now in
    let row = row_at c.args.rows.now c.loop-i.i in
    let value : c.in_ok-value.value ≡ value_of condition row = search rules in
    let looked : c.with_value-fault.result ≡ with_result c.loop-i.fault (value_of condition row) = c.with_value-fault.ensures ∙ ap (with_result c.loop-i.fault) value in
    let test : c.passes.result ≡ passes (value_of condition row) = c.passes.ensures ∙ ap passes value in
    let within : c.loop-i.i < length c.args.rows.now = omega arith in
    elim c.if-passes.branch [
      | goal.then-passes+in_ok-push w ↦ rw (w.kept-is, w.in_ok-push.ensures.items) (passing_kept c.loop-i.invariant within looked (sym test ∙ w.if-passes.true))
      | goal.else-passes w ↦ rw w.kept-is (passing_dropped c.loop-i.invariant within looked (sym test ∙ w.if-passes.false))
    ]

pub returns : goal.returns
returns c =
    let rows = c.args.rows.now in
    let kept = c.loop-i.kept in
    let found = c.positions_or_fault.result in
    let all : length rows ≤ c.loop-i.i = omega arith in
    let so_far = c.loop-i.invariant in
    let are = c.positions_or_fault.ensures in
    record {
      passing = are.found rows ∙ passing_all (expression_of c.args.condition.now) rows kept.items c.loop-i.i c.loop-i.fault so_far all;
      different = IfOk-weaker found (λ v. v ≡ kept) (λ v. AreDifferent v.items) (λ v e. subst (λ x. AreDifferent x.items) (sym e) (are_different so_far.order)) are.same;
      within = IfOk-weaker found (λ v. v ≡ kept) (λ v. AreWithin (length rows) v.items) (λ v e. subst (λ x. AreWithin (length rows) x.items) (sym e) (are_within so_far.order (length rows) (omega arith))) are.same;
    }
