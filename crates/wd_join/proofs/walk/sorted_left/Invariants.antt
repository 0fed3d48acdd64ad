use Rattle.std.proofs.Common.{◌≡◌, take}
use Rattle.wd_join.specs.Matching.{left_keys}
use Rattle.wd_join.proofs.walk.sorted_left.Given as goal

abbrev pub invariant-loop-column : goal.invariant-loop-column
invariant-loop-column l = l.keys.items ≡ left_keys (take l.column-index l.columns)
