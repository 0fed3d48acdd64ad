use Rattle.std.proofs.Common.{◌≡◌, take}
use Rattle.wd_tables.specs.Keys.{sort_columns}
use Rattle.wd_tables.proofs.key.sort_columns.Given as goal

abbrev pub invariant-loop-column : goal.invariant-loop-column
invariant-loop-column l = l.sorted.items ≡ sort_columns (take l.column-index l.columns)
