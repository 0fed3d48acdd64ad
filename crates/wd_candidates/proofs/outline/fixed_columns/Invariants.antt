use Rattle.std.proofs.Common.{map}
use Rattle.wd_schema.specs.Schemas.{schema_of}
use Rattle.wd_candidates.specs.Filled.{AreFilled}
use Rattle.wd_candidates.proofs.outline.fixed_columns.Given as goal

abbrev pub invariant-loop-fixing : goal.invariant-loop-fixing
invariant-loop-fixing l = AreFilled (schema_of l.schema) l.yielded (map (λ row. row.items) l.slots.items)
