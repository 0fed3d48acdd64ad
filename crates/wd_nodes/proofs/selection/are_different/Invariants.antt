use Rattle.std.proofs.Common.{◌≡◌, ℕ, ◌<◌, get_or}
use Rattle.wd_nodes.proofs.selection.are_different.Given as goal

abbrev pub invariant-loop-i : goal.invariant-loop-i
invariant-loop-i l = (j : ℕ) → j < l.i → (k : ℕ) → k < j → get_or l.numbers k 0 ≡ get_or l.numbers j 0 → ⊥
