use Rattle.wd_partition.specs.Places.{ArePlaces}
use Rattle.wd_partition.proofs.placing.places_of.Given as goal

abbrev pub invariant-loop-i : goal.invariant-loop-i
invariant-loop-i l = ArePlaces l.list l.starts l.ends l.i l.places.items
