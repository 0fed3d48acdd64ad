use Rattle.std.proofs.Common.{◌≡◌, length, map, take}
use Rattle.wd_value.specs.Rows.{instance_of}
use Rattle.wd_schema.specs.Schemas.{schema_of}
use Rattle.wd_witness_text.specs.Witnesses.{table_rows}
use Rattle.wd_seek.proofs.Building.{HasScannedFrom}
use Rattle.wd_seek.proofs.witness.scanned_tables.Given as goal

abbrev pub invariant-loop-rows : goal.invariant-loop-rows
invariant-loop-rows l = (l.left.items ≡ take (length l.left.items) l.fn.instance.items)
    × HasScannedFrom (schema_of l.schema) l.outline (instance_of l.fn.instance.items) (length l.left.items) (map table_rows l.tables.entries)

abbrev pub decreases-loop-rows : goal.decreases-loop-rows
decreases-loop-rows l = length l.left.items
