use Rattle.std.proofs.Common.{◌≡◌, map}
use Rattle.wd_value.specs.Rows.{rows_of}
use Rattle.wd_column_store.specs.Along.{values_at}
use Rattle.wd_column_store.proofs.picking.picked_columns.Given as goal

abbrev pub invariant-loop-column : goal.invariant-loop-column
invariant-loop-column l = rows_of l.picked.items ≡ map (λ column. values_at column l.positions) (rows_of l.yielded)
