use Rattle.std.proofs.Common.{ℕ, ◌<◌}
use Rattle.wd_schema.specs.Schemas.{schema_of}
use Rattle.wd_run.specs.Runs.{IsNamed}
use Rattle.wd_run.proofs.data.find_table.Given as goal

abbrev pub invariant-loop-number : goal.invariant-loop-number
invariant-loop-number l = (k : ℕ) → k < l.number → IsNamed (schema_of l.schema) l.name k → ⊥
