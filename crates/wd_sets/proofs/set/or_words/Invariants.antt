use Rattle.std.proofs.Common.{◌≡◌, ℕ, length}
use Rattle.wd_sets.specs.Sets.{has_bit}
use Rattle.wd_sets.proofs.Bits.{joined}
use Rattle.wd_sets.proofs.set.or_words.Given as goal

abbrev pub invariant-loop-at : goal.invariant-loop-at
invariant-loop-at l = (length l.words ≡ length l.fn.words) × ((i : ℕ) → has_bit l.words i ≡ joined l.fn.words l.others l.at i)
