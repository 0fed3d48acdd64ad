use Rattle.std.proofs.Common.{◌≡◌, map, take}
use Rattle.wd_resolve_call.specs.Rows.{row_expression_of}
use Rattle.wd_resolve_call.specs.Windows.{key_of}
use Rattle.wd_resolve_select.specs.Steps.{order_item}
use Rattle.wd_resolve_select.proofs.steps.items_over.Given as goal

abbrev pub invariant-loop-key : goal.invariant-loop-key
invariant-loop-key l = l.items.items ≡ map (order_item (map row_expression_of l.inputs)) (map key_of (take l.key-index l.keys))
