use Rattle.std.proofs.Common.{◌≡◌, drop}
use Rattle.std.specs.List.{list_all}
use Rattle.wd_value.specs.Rows.{rows_of}
use Rattle.wd_schema.specs.Meets.{fits_columns}
use Rattle.wd_schema.proofs.instances.fit_columns.Given as goal

abbrev pub invariant-loop-row : goal.invariant-loop-row
invariant-loop-row l = list_all (fits_columns l.columns) (rows_of (drop l.row-index l.rows)) ≡ list_all (fits_columns l.columns) (rows_of l.rows)
