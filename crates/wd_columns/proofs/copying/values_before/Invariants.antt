use Rattle.std.proofs.Common.{◌≡◌, take}
use Rattle.wd_column_store.specs.Along.{values_before}
use Rattle.wd_columns.proofs.copying.values_before.Given as goal

abbrev pub invariant-loop-position : goal.invariant-loop-position
invariant-loop-position l = l.values.items ≡ values_before (take l.position l.rows) l.after
