use Rattle.std.proofs.Common.{◌≡◌, drop}
use Rattle.wd_value.specs.Rows.{columns_of, same_row}
use Rattle.wd_schema.proofs.instances.is_same_on.Given as goal

abbrev pub invariant-loop-column : goal.invariant-loop-column
invariant-loop-column l = same_row (columns_of (drop l.column-index l.columns) l.a) (columns_of (drop l.column-index l.columns) l.b) ≡ same_row (columns_of l.columns l.a) (columns_of l.columns l.b)
