use Rattle.std.proofs.Common.{ℕ, ◌<◌, get_or}
use Rattle.wd_value.specs.Rows.{column_of, row_at}
use Rattle.wd_sort.specs.Codes.{IsWhole}
use Rattle.wd_sort.proofs.whole.whole_range.Given as goal

abbrev pub invariant-loop-i : goal.invariant-loop-i
invariant-loop-i l = (k : ℕ) → k < l.i → IsWhole l.range.least l.range.greatest (column_of (row_at l.rows (get_or l.positions k 0)) l.column)
