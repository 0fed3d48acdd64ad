use Rattle.std.proofs.Common.{◌≡◌, map, take}
use Rattle.wd_joined.proofs.pairs.left_positions.Given as goal

abbrev pub invariant-loop-pair : goal.invariant-loop-pair
invariant-loop-pair l = l.positions.items ≡ map (λ pair. pair.left) (take l.pair-index l.pairs)
