use Rattle.std.proofs.Common.{◌≡◌, ◌+◌, drop, map}
use Rattle.std.specs.List.{position_or_len}
use Rattle.wd_resolve_call.specs.Rows.{group_call_of, same_group_call}
use Rattle.wd_resolve_list.specs.SelectLists.{shared_call}
use Rattle.wd_resolve_list.proofs.places.group_number.Given as goal

abbrev pub invariant-loop-number : goal.invariant-loop-number
invariant-loop-number l = l.number + position_or_len (same_group_call (group_call_of l.call)) (map shared_call (drop l.number l.calls)) ≡ position_or_len (same_group_call (group_call_of l.call)) (map shared_call l.calls)
