use Rattle.std.proofs.Common.{◌≡◌, ◌++◌, take}
use Rattle.wd_join.specs.Paired.{with_each}
use Rattle.wd_join.proofs.paired.push_each.Given as goal

abbrev pub invariant-loop-position : goal.invariant-loop-position
invariant-loop-position l = l.pairs.items ≡ l.fn.pairs.items ++ with_each l.left (take l.position-index l.positions)
