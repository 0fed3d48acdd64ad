use Rattle.std.proofs.Common.{◌≡◌, drop}
use Rattle.std.specs.List.{slice_get}
use Rattle.wd_frame.specs.IndexRanges.{lists_of, places_along}
use Rattle.wd_calls.proofs.places.place_at.Given as goal

abbrev pub invariant-loop-list : goal.invariant-loop-list
invariant-loop-list l = slice_get (places_along (drop l.list-index (lists_of l.lists)) l.place) l.left ≡ slice_get (places_along (lists_of l.lists) l.place) l.number
