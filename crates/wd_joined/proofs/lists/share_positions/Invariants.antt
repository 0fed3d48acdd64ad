use Rattle.std.proofs.Common.{◌≡◌, take}
use Rattle.wd_joined.proofs.lists.share_positions.Given as goal

abbrev pub invariant-loop-list : goal.invariant-loop-list
invariant-loop-list l = l.shared.items ≡ take l.list-index l.positions
