use Rattle.std.proofs.Common.{◌≡◌, take}
use Rattle.wd_joined.specs.Joined.{positions_at}
use Rattle.wd_joined.proofs.lists.positions_at.Given as goal

abbrev pub invariant-loop-place : goal.invariant-loop-place
invariant-loop-place l = l.picked.items ≡ positions_at (take l.place-index l.places) l.list
