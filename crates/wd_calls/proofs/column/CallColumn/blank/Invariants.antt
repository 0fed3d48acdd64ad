use Rattle.std.proofs.Common.{◌≡◌, replicate}
use Rattle.wd_value.specs.declared.value.Value.TheVariants.{Null}
use Rattle.wd_calls.proofs.column.CallColumn.blank.Given as goal

abbrev pub invariant-loop : goal.invariant-loop
invariant-loop l = l.values.items ≡ replicate l.counter Null
