use Rattle.std.proofs.Common.{◌≡◌, ◌+◌, drop, filter, map}
use Rattle.std.specs.List.{position_or_len}
use Rattle.wd_resolve_list.specs.Outputs.{output_of}
use Rattle.wd_resolve_select.specs.Sorting.{is_named}
use Rattle.wd_resolve_select.proofs.sorting.first_named.Given as goal

abbrev pub invariant-loop-number : goal.invariant-loop-number
invariant-loop-number l = record {
  first : l.number + position_or_len (is_named l.name.text) (map output_of (drop l.number l.outputs)) ≡ position_or_len (is_named l.name.text) (map output_of l.outputs);
  named : filter (is_named l.name.text) (map output_of (drop l.number l.outputs)) ≡ filter (is_named l.name.text) (map output_of l.outputs);
}
