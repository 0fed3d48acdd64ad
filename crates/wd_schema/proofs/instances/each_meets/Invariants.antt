use Rattle.std.proofs.Common.{◌≡◌, ℕ, ◌<◌, slice_get, Some, true}
use Rattle.wd_value.specs.Rows.{instance_of, table_at}
use Rattle.wd_schema.specs.Meets.{is_met}
use Rattle.wd_schema.specs.Schemas.{schema_of}
use Rattle.wd_schema.specs.Tables.{TableRule}
use Rattle.wd_schema.proofs.instances.each_meets.Given as goal

abbrev pub invariant-loop-t : goal.invariant-loop-t
invariant-loop-t l = (k : ℕ) → k < l.t → (table : TableRule) → slice_get (schema_of l.schema) k ≡ Some table → is_met table (table_at (instance_of l.instance) k) ≡ true
