use Rattle.std.proofs.Common.{◌≡◌, drop}
use Rattle.wd_value.specs.Rows.{columns_of, row_at, same_row}
use Rattle.wd_tables.proofs.key.are_same.Given as goal

abbrev pub invariant-loop-column : goal.invariant-loop-column
invariant-loop-column l =
    same_row (columns_of (drop l.column-index l.columns) (row_at l.rows l.p)) (columns_of (drop l.column-index l.columns) (row_at l.rows l.q))
    ≡ same_row (columns_of l.columns (row_at l.rows l.p)) (columns_of l.columns (row_at l.rows l.q))
