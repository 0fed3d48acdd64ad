use Rattle.std.proofs.Common.{◌≡◌, ◌+◌, ◌-◌, ◌^◌, ◌≤◌, min, length, drop}
use Rattle.wd_frame.specs.IndexRanges.{lists_of, places_along}
use Rattle.wd_calls.proofs.places.count_at.Given as goal

abbrev pub invariant-loop-list : goal.invariant-loop-list
invariant-loop-list l = record {
  total : min (l.count + length (places_along (drop l.list-index (lists_of l.lists)) l.place)) (2 ^ 64 - 1) ≡ min (length (places_along (lists_of l.lists) l.place)) (2 ^ 64 - 1);
  fits : l.count ≤ 2 ^ 64 - 1;
}
