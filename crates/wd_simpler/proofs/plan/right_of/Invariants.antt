use Rattle.std.proofs.Common.{◌≡◌, ◌+◌, ◌&&◌, ℕ, nat_lt}
use Rattle.wd_sets.specs.Sets.{has_column}
use Rattle.wd_simpler.proofs.plan.right_of.Given as goal

abbrev pub invariant-loop-column : goal.invariant-loop-column
invariant-loop-column l = (c : ℕ) → has_column l.beside c ≡ (nat_lt c l.column && has_column l.set (l.first + c))
