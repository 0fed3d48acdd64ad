use Rattle.std.proofs.Common.{◌≡◌, ℕ, ◌<◌, get_or}
use Rattle.wd_value.specs.Rows.{row_at}
use Rattle.wd_refute.proofs.rows.show_the_same.Given as goal

abbrev pub invariant-loop-i : goal.invariant-loop-i
invariant-loop-i l = (k : ℕ) → k < l.i → row_at l.first (get_or l.first_order k 0) ≡ row_at l.second (get_or l.second_order k 0)
