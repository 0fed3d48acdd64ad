use Rattle.std.proofs.Common.{◌≡◌, ◌++◌, drop}
use Rattle.wd_analyse.specs.Evidence.{once, once_after}
use Rattle.wd_analyse.proofs.closed.once.Given as goal

abbrev pub invariant-loop-column : goal.invariant-loop-column
invariant-loop-column l = l.met.items ++ once_after l.met.items (drop l.column-index l.columns) ≡ once l.columns
