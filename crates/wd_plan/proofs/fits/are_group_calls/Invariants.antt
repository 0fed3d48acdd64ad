use Rattle.std.proofs.Common.{◌≡◌, drop, map}
use Rattle.std.specs.List.{list_all}
use Rattle.wd_schema.specs.Schemas.{schema_of}
use Rattle.wd_plan.specs.Fits.{is_group_call, kinds_of}
use Rattle.wd_plan.specs.Plans.{group_call_of, plan_of}
use Rattle.wd_plan.proofs.fits.are_group_calls.Given as goal

abbrev pub invariant-loop-call : goal.invariant-loop-call
invariant-loop-call l = let is = is_group_call (kinds_of (schema_of l.schema) (plan_of l.input)) l.columns in list_all is (map group_call_of (drop l.call-index l.calls)) ≡ list_all is (map group_call_of l.calls)
