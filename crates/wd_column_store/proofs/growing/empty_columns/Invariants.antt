use Rattle.std.proofs.Common.{◌≡◌, length}
use Rattle.wd_value.specs.Rows.{rows_of}
use Rattle.wd_column_store.specs.Along.{AreLong}
use Rattle.wd_column_store.proofs.growing.empty_columns.Given as goal

abbrev pub invariant-loop : goal.invariant-loop
invariant-loop l = record {
  wide : length (rows_of l.columns.items) ≡ l.counter;
  empty : AreLong 0 (rows_of l.columns.items);
}
