use Rattle.std.proofs.Common.{◌≡◌, drop}
use Rattle.std.specs.List.{list_any}
use Rattle.wd_value.specs.Rows.{columns_of, row_at}
use Rattle.wd_schema.specs.Meets.{is_null}
use Rattle.wd_tables.proofs.key.has_null.Given as goal

abbrev pub invariant-loop-column : goal.invariant-loop-column
invariant-loop-column l = list_any is_null (columns_of (drop l.column-index l.columns) (row_at l.rows l.p)) ≡ list_any is_null (columns_of l.columns (row_at l.rows l.p))
