use Rattle.std.proofs.Common.{◌≡◌, ℕ, ◌<◌, length, get_or}
use Rattle.wd_value.specs.Rows.{column_of, row_at}
use Rattle.wd_sort.specs.Codes.{whole_code}
use Rattle.wd_sort.proofs.whole.whole_codes.Given as goal

abbrev pub invariant-loop-k : goal.invariant-loop-k
invariant-loop-k l = record {
  long : length l.codes.items ≡ l.k;
  each : (k : ℕ) → k < l.k → get_or l.codes.items k 0 ≡ whole_code l.column.key l.range.least l.range.greatest (column_of (row_at l.rows (get_or l.positions k 0)) l.column.column);
}
