use Rattle.std.proofs.Common.{◌≡◌, drop, map}
use Rattle.wd_resolve_call.specs.Rows.{row_expression_of, same_row_expression}
use Rattle.wd_resolve_call.specs.Windows.{key_of}
use Rattle.wd_resolve_list.specs.SelectLists.{sorted_by, with_new}
use Rattle.wd_resolve_list.proofs.inputs.add_order.Given as goal

abbrev pub invariant-loop-key : goal.invariant-loop-key
invariant-loop-key l = with_new same_row_expression (map row_expression_of l.inputs.items) (map sorted_by (map key_of (drop l.key-index l.keys))) ≡ with_new same_row_expression (map row_expression_of l.initial.inputs.items) (map sorted_by (map key_of l.keys))
