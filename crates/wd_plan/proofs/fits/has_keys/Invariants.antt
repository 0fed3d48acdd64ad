use Rattle.std.proofs.Common.{◌≡◌, drop}
use Rattle.wd_schema.specs.Schemas.{schema_of}
use Rattle.wd_plan.specs.Fits.{has_keys, kinds_of}
use Rattle.wd_plan.specs.Plans.{plan_of}
use Rattle.wd_plan.proofs.fits.has_keys.Given as goal

abbrev pub invariant-loop-item : goal.invariant-loop-item
invariant-loop-item l = let kinds = kinds_of (schema_of l.schema) (plan_of l.input) in has_keys kinds (drop l.item-index l.keys) ≡ has_keys kinds l.keys
