use Rattle.std.proofs.Common.{◌≡◌, ◌++◌, map, take, None}
use Rattle.wd_plan.specs.Plans.{GroupCall, group_call_of}
use Rattle.wd_candidates.proofs.origins.add_group_calls.Given as goal

abbrev pub invariant-loop-call : goal.invariant-loop-call
invariant-loop-call l = l.origins.items ≡ l.initial.origins.items ++ map (λ (call : GroupCall). None) (map group_call_of (take l._call-index l.calls))
