use Rattle.std.proofs.Common.{◌≡◌, drop, map}
use Rattle.wd_syntax.specs.Tree.{keys_of}
use Rattle.wd_syntax.specs.View.{view_key}
use Rattle.wd_resolve_select.specs.Sorting.{shown_of, sorted_of, unsorted, keys_sorted, IsCounted, IsNarrow}
use Rattle.wd_resolve_select.proofs.sorting.resolve_sort_keys.Given as goal

abbrev pub invariant-loop-key : goal.invariant-loop-key
invariant-loop-key l = record {
  meant : keys_sorted (shown_of l.shown) (keys_of (map view_key (drop l.key-index l.keys))) (sorted_of l.sorted) ≡ keys_sorted (shown_of l.shown) (keys_of (map view_key l.keys)) unsorted;
  counted : IsCounted (shown_of l.shown) l.sorted;
  narrow : IsNarrow (shown_of l.shown) (sorted_of l.sorted);
}
