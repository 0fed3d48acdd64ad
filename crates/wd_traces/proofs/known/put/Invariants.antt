use Rattle.std.proofs.Common.{◌≡◌, ℕ, ◌+◌, ◌-◌, Some, length, slice_get}
use Rattle.wd_sets.specs.declared.set.Set.{Set}
use Rattle.wd_traces.specs.Known.{set_in}
use Rattle.wd_traces.proofs.known.put.Given as goal

abbrev pub invariant-loop-sets : goal.invariant-loop-sets
invariant-loop-sets l = (n : ℕ) (other : Set) → set_in (slice_get l.sets.items n) ≡ Some other → set_in (slice_get l.fn.sets.items n) ≡ Some other

abbrev pub decreases-loop-sets : goal.decreases-loop-sets
decreases-loop-sets l = l.number + 1 - length l.sets.items
