use Rattle.std.proofs.Common.{◌≡◌, ◌++◌, map}
use Rattle.wd_schema.specs.Schemas.{schema_of}
use Rattle.wd_value.specs.Rows.{instance_of}
use Rattle.wd_witness_text.specs.Witnesses.{instance_under, rows_named, table_rows, witness_of}
use Rattle.wd_witness_text.proofs.witness.Witness.instance.Given as goal

abbrev pub invariant-loop-table : goal.invariant-loop-table
invariant-loop-table l = instance_of l.instance.items ++ map (λ table. rows_named table.name (map table_rows l.self.tables.entries)) l.table-iterator ≡ instance_under (schema_of l.schema) (witness_of l.self)
