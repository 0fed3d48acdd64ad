use Rattle.std.proofs.Common.{◌≡◌, drop, map}
use Rattle.std.specs.List.{list_all}
use Rattle.wd_schema.specs.Schemas.{schema_of}
use Rattle.wd_plan.specs.Fits.{is_call, kinds_of}
use Rattle.wd_plan.specs.Plans.{class_of, plan_of}
use Rattle.wd_plan.proofs.fits.are_calls.Given as goal

abbrev pub invariant-loop-call : goal.invariant-loop-call
invariant-loop-call l = let is = is_call (kinds_of (schema_of l.schema) (plan_of l.input)) (map class_of l.classes) in list_all is (drop l.call-index l.calls) ≡ list_all is l.calls
