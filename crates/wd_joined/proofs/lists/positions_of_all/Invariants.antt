use Rattle.std.proofs.Common.{◌≡◌, map, take}
use Rattle.wd_joined.specs.Joined.{positions_at}
use Rattle.wd_joined.proofs.lists.positions_of_all.Given as goal

abbrev pub invariant-loop-shared : goal.invariant-loop-shared
invariant-loop-shared l = l.picked.items ≡ map (positions_at l.places) (take l.shared-index l.lists)
