use Rattle.std.proofs.Common.{◌≡◌, ℕ, ◌-◌, length, get_or}
use Rattle.wd_sets.proofs.set.widen.Given as goal

abbrev pub invariant-loop-words : goal.invariant-loop-words
invariant-loop-words l = (i : ℕ) → get_or l.words.items i 0 ≡ get_or l.fn.words.items i 0

abbrev pub decreases-loop-words : goal.decreases-loop-words
decreases-loop-words l = l.count - length l.words.items
