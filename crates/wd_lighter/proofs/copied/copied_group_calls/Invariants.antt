use Rattle.std.proofs.Common.{◌≡◌, map, take}
use Rattle.wd_plan.specs.Plans.{group_call_of}
use Rattle.wd_lighter.proofs.copied.copied_group_calls.Given as goal

abbrev pub invariant-loop-call : goal.invariant-loop-call
invariant-loop-call l = map group_call_of l.copied.items ≡ map group_call_of (take l.call-index l.calls)
