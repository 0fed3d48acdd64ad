use Rattle.std.proofs.Common.{◌≡◌, take}
use Rattle.wd_join.specs.Matching.{right_keys}
use Rattle.wd_join.proofs.walk.sorted_right.Given as goal

abbrev pub invariant-loop-column : goal.invariant-loop-column
invariant-loop-column l = l.keys.items ≡ right_keys (take l.column-index l.columns)
