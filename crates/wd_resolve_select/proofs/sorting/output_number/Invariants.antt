use Rattle.std.proofs.Common.{◌≡◌, ◌+◌, drop, map}
use Rattle.std.specs.List.{position_or_len}
use Rattle.wd_resolve_call.specs.References.{bound_expression_of}
use Rattle.wd_resolve_list.specs.Outputs.{output_of}
use Rattle.wd_resolve_select.specs.Sorting.{shows}
use Rattle.wd_resolve_select.proofs.sorting.output_number.Given as goal

abbrev pub invariant-loop-number : goal.invariant-loop-number
invariant-loop-number l = l.number + position_or_len (shows (bound_expression_of l.expression)) (map output_of (drop l.number l.outputs)) ≡ position_or_len (shows (bound_expression_of l.expression)) (map output_of l.outputs)
