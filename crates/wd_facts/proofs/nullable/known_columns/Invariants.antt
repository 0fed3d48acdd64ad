use Rattle.std.proofs.Common.{◌≡◌, length}
use Rattle.wd_schema.specs.Schemas.{schema_of}
use Rattle.wd_plan.specs.Plans.{plan_of}
use Rattle.wd_facts.specs.Given.{is_not_null}
use Rattle.wd_facts.specs.Known.{IsKnown}
use Rattle.wd_facts.proofs.nullable.known_columns.Given as goal

abbrev pub invariant-loop-column : goal.invariant-loop-column
invariant-loop-column l = (length l.known.items ≡ l.column) × IsKnown (is_not_null (schema_of l.schema) (plan_of l.plan)) l.known.items
