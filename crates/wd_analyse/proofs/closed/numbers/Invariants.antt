use Rattle.std.proofs.Common.{◌≡◌, take}
use Rattle.wd_analyse.proofs.closed.numbers.Given as goal

abbrev pub invariant-loop-column : goal.invariant-loop-column
invariant-loop-column l = l.list.items ≡ take l.column-index l.columns
