use Rattle.std.proofs.Common.{◌≡◌, map, take, vec_len}
use Rattle.wd_schema.specs.Tables.{table_of}
use Rattle.wd_resolve.specs.Selected.{table_column}
use Rattle.wd_resolve.proofs.tables.scope_columns.Given as goal

abbrev pub invariant-loop-column : goal.invariant-loop-column
invariant-loop-column l = (l.columns.items ≡ map (table_column l.name) (take l.column-index (table_of l.table).columns)) × (vec_len l.columns ≡ l.column-index)
