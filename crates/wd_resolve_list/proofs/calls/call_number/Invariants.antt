use Rattle.std.proofs.Common.{◌≡◌, ◌+◌, drop, map}
use Rattle.std.specs.List.{position_or_len}
use Rattle.wd_resolve_call.specs.Calls.{call_of, same_call}
use Rattle.wd_resolve_list.proofs.calls.call_number.Given as goal

abbrev pub invariant-loop-number : goal.invariant-loop-number
invariant-loop-number l = l.number + position_or_len (same_call (call_of l.call)) (map call_of (drop l.number l.calls)) ≡ position_or_len (same_call (call_of l.call)) (map call_of l.calls)
