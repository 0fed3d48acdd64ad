use Rattle.std.proofs.Common.{◌≡◌, take}
use Rattle.wd_value.specs.Keys.{key_columns}
use Rattle.wd_analyse.proofs.entry.key_columns.Given as goal

abbrev pub invariant-loop-item : goal.invariant-loop-item
invariant-loop-item l = l.columns.items ≡ key_columns (take l.item-index l.keys)
