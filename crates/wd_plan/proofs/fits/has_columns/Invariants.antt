use Rattle.std.proofs.Common.{◌≡◌, drop}
use Rattle.wd_schema.specs.Schemas.{schema_of}
use Rattle.wd_plan.specs.Fits.{has_columns, kinds_of}
use Rattle.wd_plan.specs.Plans.{plan_of}
use Rattle.wd_plan.proofs.fits.has_columns.Given as goal

abbrev pub invariant-loop-column : goal.invariant-loop-column
invariant-loop-column l = let kinds = kinds_of (schema_of l.schema) (plan_of l.input) in has_columns kinds (drop l.column-index l.columns) ≡ has_columns kinds l.columns
