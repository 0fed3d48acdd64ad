use Rattle.std.proofs.Common.{◌≡◌, drop}
use Rattle.std.specs.List.{list_any}
use Rattle.wd_least.specs.Sites.{is_at}
use Rattle.wd_least.proofs.place.has_place.Given as goal

abbrev pub invariant-loop-place : goal.invariant-loop-place
invariant-loop-place l = list_any (is_at l.key) (drop l.place-index l.places) ≡ list_any (is_at l.key) l.places
