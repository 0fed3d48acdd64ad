use Rattle.std.proofs.Common.{◌≡◌, drop, map}
use Rattle.wd_resolve_call.specs.Rows.{same_group_call}
use Rattle.wd_resolve_call.specs.Windows.{key_of}
use Rattle.wd_resolve_list.specs.SelectLists.{all_row_references, group_calls_among, shared_call, sorted_by, with_new}
use Rattle.wd_resolve_list.proofs.groups.add_order_calls.Given as goal

abbrev pub invariant-loop-key : goal.invariant-loop-key
invariant-loop-key l = with_new same_group_call (map shared_call l.calls.items) (group_calls_among (all_row_references (map sorted_by (map key_of (drop l.key-index l.keys))))) ≡ with_new same_group_call (map shared_call l.initial.calls.items) (group_calls_among (all_row_references (map sorted_by (map key_of (l.keys)))))
