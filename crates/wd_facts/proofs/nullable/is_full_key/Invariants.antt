use Rattle.std.proofs.Common.{◌≡◌, drop}
use Rattle.std.specs.List.{list_all}
use Rattle.wd_schema.specs.Schemas.{schema_of}
use Rattle.wd_plan.specs.Plans.{plan_of}
use Rattle.wd_facts.specs.Given.{is_not_null}
use Rattle.wd_facts.proofs.nullable.is_full_key.Given as goal

abbrev pub invariant-loop-column : goal.invariant-loop-column
invariant-loop-column l = list_all (is_not_null (schema_of l.schema) (plan_of l.plan)) (drop l.column-index l.key) ≡ list_all (is_not_null (schema_of l.schema) (plan_of l.plan)) l.key
