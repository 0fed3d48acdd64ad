use Rattle.std.proofs.Common.{◌≡◌, drop}
use Rattle.std.specs.List.{list_any}
use Rattle.wd_value.specs.Rows.{columns_of}
use Rattle.wd_schema.specs.Meets.{is_null}
use Rattle.wd_schema.proofs.instances.has_null.Given as goal

abbrev pub invariant-loop-column : goal.invariant-loop-column
invariant-loop-column l = list_any is_null (columns_of (drop l.column-index l.columns) l.a) ≡ list_any is_null (columns_of l.columns l.a)
