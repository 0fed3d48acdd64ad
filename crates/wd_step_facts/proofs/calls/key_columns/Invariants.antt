use Rattle.std.proofs.Common.{◌≡◌, take}
use Rattle.wd_value.specs.Keys.{key_columns}
use Rattle.wd_step_facts.proofs.calls.key_columns.Given as goal

abbrev pub invariant-loop-item : goal.invariant-loop-item
invariant-loop-item l = l.columns.items ≡ key_columns (take l.item-index l.keys)
