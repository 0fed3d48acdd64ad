use Rattle.std.proofs.Common.{◌≡◌, ◌+◌, drop}
use Rattle.std.specs.List.{position_or_len}
use Rattle.wd_schema.specs.Schemas.{schema_of}
use Rattle.wd_resolve.specs.Selected.{has_name}
use Rattle.wd_resolve.proofs.tables.table_number.Given as goal

abbrev pub invariant-loop-number : goal.invariant-loop-number
invariant-loop-number l = l.number + position_or_len (has_name l.name) (drop l.number (schema_of l.schema)) ≡ position_or_len (has_name l.name) (schema_of l.schema)
