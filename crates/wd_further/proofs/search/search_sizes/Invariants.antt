use Rattle.std.proofs.Common.{None, flat_map, length, take}
use Rattle.wd_plan.specs.Plans.{plan_of}
use Rattle.wd_schema.specs.Schemas.{schema_of}
use Rattle.wd_varied.specs.Sizes.{sizes}
use Rattle.wd_further.specs.Finds.{IsSoughtBy, of_size}
use Rattle.wd_further.proofs.search.search_sizes.Given as goal

abbrev pub invariant-loop-rows : goal.invariant-loop-rows
invariant-loop-rows l = IsSoughtBy None (schema_of l.schema) (plan_of l.plan) (flat_map (of_size (length (sizes (plan_of l.plan)))) (take l.rows-index (sizes (plan_of l.plan))))
