use Rattle.std.proofs.Common.{◌≡◌, ◌++◌, ◌-◌}
use Rattle.wd_equations.specs.Equations.{each}
use Rattle.wd_equations.proofs.equation.push_each.Given as goal

abbrev pub invariant-loop-index : goal.invariant-loop-index
invariant-loop-index l = l.pieces.items ++ each l.repeated l.index (l.count - l.index) ≡ l.initial.pieces.items ++ each l.repeated 0 l.count
