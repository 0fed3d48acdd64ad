use Rattle.std.proofs.Common.{◌≡◌, ◌++◌, map, take}
use Rattle.wd_schema.specs.Schemas.{schema_of}
use Rattle.wd_plan.specs.Plans.{plan_of}
use Rattle.wd_step_facts.specs.Facts.{fact_of}
use Rattle.wd_facts.specs.Given.{full_keys, is_not_null, keys_facts}
use Rattle.wd_facts.proofs.nullable.add_full_keys.Given as goal

abbrev pub invariant-loop-key : goal.invariant-loop-key
invariant-loop-key l = map fact_of l.list.items ≡ map fact_of l.initial.list.items ++ keys_facts l.row (full_keys (is_not_null (schema_of l.schema) (plan_of l.plan)) (map (λ k. k.items) (take l.key-index l.keys)))
