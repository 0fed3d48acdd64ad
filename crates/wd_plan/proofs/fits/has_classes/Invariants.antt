use Rattle.std.proofs.Common.{◌≡◌, drop, map}
use Rattle.std.specs.List.{list_all}
use Rattle.wd_schema.specs.Schemas.{schema_of}
use Rattle.wd_plan.specs.Fits.{has_class, kinds_of}
use Rattle.wd_plan.specs.Plans.{class_of, plan_of}
use Rattle.wd_plan.proofs.fits.has_classes.Given as goal

abbrev pub invariant-loop-class : goal.invariant-loop-class
invariant-loop-class l = let has = has_class (kinds_of (schema_of l.schema) (plan_of l.input)) in list_all has (map class_of (drop l.class-index l.classes)) ≡ list_all has (map class_of l.classes)
