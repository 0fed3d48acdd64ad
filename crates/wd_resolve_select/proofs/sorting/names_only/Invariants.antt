use Rattle.std.proofs.Common.{◌≡◌, drop, filter, map}
use Rattle.std.specs.List.{list_all}
use Rattle.wd_resolve_call.specs.References.{bound_expression_of}
use Rattle.wd_resolve_list.specs.Outputs.{output_of}
use Rattle.wd_resolve_select.specs.Sorting.{is_named, shows}
use Rattle.wd_resolve_select.proofs.sorting.names_only.Given as goal

abbrev pub invariant-loop-output : goal.invariant-loop-output
invariant-loop-output l = list_all (shows (bound_expression_of l.expression)) (filter (is_named l.name.text) (map output_of (drop l.output-index l.outputs))) ≡ list_all (shows (bound_expression_of l.expression)) (filter (is_named l.name.text) (map output_of l.outputs))
