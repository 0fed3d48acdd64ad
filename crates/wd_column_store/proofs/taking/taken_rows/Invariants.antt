use Rattle.std.proofs.Common.{◌≡◌, ℕ, ◌≤◌}
use Rattle.wd_value.specs.Rows.{rows_of}
use Rattle.wd_column_store.specs.Along.{row_along, rows_along}
use Rattle.wd_column_store.proofs.taking.taken_rows.Given as goal

abbrev pub invariant-loop-position : goal.invariant-loop-position
invariant-loop-position l = record {
  made : rows_of l.rows.items ≡ rows_along (rows_of l.fn.columns.items) l.position;
  left : (p : ℕ) → l.position ≤ p → row_along (rows_of l.left.items) p ≡ row_along (rows_of l.fn.columns.items) p;
}
