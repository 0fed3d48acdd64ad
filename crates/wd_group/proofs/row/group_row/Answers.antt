use Rattle.std.proofs.Common.{◌≡◌, ◌<◌, ◌∙◌, length, get_or, ap, sym, subst, arith, rules, Ok, Err}
use Rattle.wd_value.specs.Rows.{rows_at}
use Rattle.wd_plan.specs.Outcomes.{group_value}
use Rattle.wd_plan.specs.Plans.{GroupCall, HasMask, group_call_of}
use Rattle.wd_steps.proofs.Results.{map-map_more}
use Rattle.wd_group.proofs.Calls.{IsRowSoFar-more_err, IsRowSoFar-more_ok, mask_at}
use Rattle.wd_group.proofs.row.group_row.Goals.{in-Ok+in_ok-push-in-Ok, in-Err}
use Rattle.wd_group.proofs.row.group_row.Goals as goal

pub call_value-requires : goal.call_value-requires
call_value-requires c =
    let i = c.loop-call.call-index in
    let calls = c.args.group.now.calls.items in
    let there = c.deref-call-items.ensures.value in
    let same = ap length there in
    let within : i < length calls = omega arith in
    let is : c.call-item.result ≡ get_or calls i c.call-item.result = c.call-item.is ∙ ap (λ xs. get_or xs i c.call-item.result) there in
    subst (λ x. HasMask (group_call_of x)) (sym is) (mask_at calls i c.call-item.result within c.requires)

pub loop-call-preserved : goal.loop-call-preserved
loop-call-preserved c =
    let i = c.loop-call.call-index in
    let calls = c.args.group.now.calls.items in
    let there = c.deref-call-items.ensures.value in
    let same = ap length there in
    let within : i < length calls = omega arith in
    let is : c.call-item.result ≡ get_or calls i c.call-item.result = c.call-item.is ∙ ap (λ xs. get_or xs i c.call-item.result) there in
    let value = λ (call : GroupCall). group_value c.args.set.now (rows_at c.args.rows.now c.args.members.now) call in
    let more = map-map_more value group_call_of calls i c.call-item.result within is in
    elim c.match-branch-3.branch [
      | in-Ok+in_ok-push-in-Ok w ↦ (
          let found : value (group_call_of c.call-item.result) ≡ Ok w.in-Ok.value = search rules in
          IsRowSoFar-more_ok _ c.loop-call.invariant more w.in-Ok.value found (ap (λ v. v.items) w.row-is ∙ w.in_ok-push-in-Ok.ensures.items) w.fault-is)
      | in-Err w ↦ (
          let found : value (group_call_of c.call-item.result) ≡ Err w.in-Err.found = search rules in
          IsRowSoFar-more_err _ c.loop-call.invariant more w.in-Err.found found (ap (λ v. v.items) w.row-is) (w.fault-is ∙ w.with_fault.ensures))
    ]
