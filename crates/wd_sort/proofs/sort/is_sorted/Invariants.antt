use Rattle.std.proofs.Common.{◌≡◌, ℕ, ◌+◌, ◌<◌, false, get_or}
use Rattle.std.specs.Ordering.{is_lt}
use Rattle.wd_value.specs.Rows.{rows_of}
use Rattle.wd_sort.specs.Sorting.{compare_rows_at}
use Rattle.wd_sort.proofs.sort.is_sorted.Given as goal

abbrev pub invariant-loop-i : goal.invariant-loop-i
invariant-loop-i l = (k : ℕ) → k + 1 < l.i → is_lt (compare_rows_at l.columns (rows_of l.rows) (get_or l.positions (k + 1) 0) (get_or l.positions k 0)) ≡ false
