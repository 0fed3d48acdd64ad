use Rattle.std.proofs.Common.{◌≡◌, ℕ, ◌+◌, ◌<◌, false}
use Rattle.std.specs.Ordering.{is_lt}
use Rattle.wd_sort.specs.Sorting.{compare_rows_at}
use Rattle.wd_tables.proofs.key.are_in_order.Given as goal

abbrev pub invariant-loop-i : goal.invariant-loop-i
invariant-loop-i l = (k : ℕ) → k + 1 < l.i → is_lt (compare_rows_at l.columns l.rows (k + 1) k) ≡ false
