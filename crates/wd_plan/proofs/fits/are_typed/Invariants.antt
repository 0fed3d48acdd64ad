use Rattle.std.proofs.Common.{◌≡◌, drop, map}
use Rattle.std.specs.List.{list_all}
use Rattle.wd_schema.specs.Schemas.{schema_of}
use Rattle.wd_plan.specs.Expressions.{expression_of}
use Rattle.wd_plan.specs.Fits.{is_typed, kinds_of}
use Rattle.wd_plan.specs.Plans.{plan_of}
use Rattle.wd_plan.proofs.fits.are_typed.Given as goal

abbrev pub invariant-loop-output : goal.invariant-loop-output
invariant-loop-output l = let typed = is_typed (kinds_of (schema_of l.schema) (plan_of l.input)) in list_all typed (map expression_of (drop l.output-index l.outputs)) ≡ list_all typed (map expression_of l.outputs)
