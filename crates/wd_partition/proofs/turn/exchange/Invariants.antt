use Rattle.std.proofs.Common.{◌≡◌, ◌++◌, length}
use Rattle.wd_partition.specs.Columns.{exchanged}
use Rattle.wd_partition.proofs.turn.exchange.Given as goal

abbrev pub invariant-loop-rest : goal.invariant-loop-rest
invariant-loop-rest l = l.turned.items ++ exchanged l.rest ≡ exchanged l.fn.positions

abbrev pub decreases-loop-rest : goal.decreases-loop-rest
decreases-loop-rest l = length l.rest
