use Rattle.std.proofs.Common.{◌≡◌, [], drop}
use Rattle.wd_least.specs.Sites.{places_at}
use Rattle.wd_least.proofs.place.places_at.Given as goal

abbrev pub invariant-loop-found : goal.invariant-loop-found
invariant-loop-found l = places_at l.reason l.places.items (drop l.found-index l.sites) ≡ places_at l.reason [] l.sites
