use Rattle.std.proofs.Common.{take}
use Rattle.wd_schema.specs.Schemas.{schema_of}
use Rattle.wd_run.specs.Runs.{HoldsData, data_of}
use Rattle.wd_run.proofs.data.load_data.Given as goal

abbrev pub invariant-loop-i : goal.invariant-loop-i
invariant-loop-i l = HoldsData (schema_of l.schema) (data_of (take l.i l.given)) l.instance.items
