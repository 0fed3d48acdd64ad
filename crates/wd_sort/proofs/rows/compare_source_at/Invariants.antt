use Rattle.std.proofs.Common.{◌≡◌, drop}
use Rattle.wd_value.specs.Keys.{compare_keys}
use Rattle.wd_value.specs.Rows.{row_at}
use Rattle.wd_sort.proofs.rows.compare_source_at.Given as goal

abbrev pub invariant-loop-column : goal.invariant-loop-column
invariant-loop-column l = compare_keys (drop l.column-index l.columns) (row_at l.rows l.p) (row_at l.rows l.q) ≡ compare_keys l.columns (row_at l.rows l.p) (row_at l.rows l.q)
