use Rattle.std.proofs.Common.{◌≡◌, ◌++◌, map}
use Rattle.wd_varied.specs.Suggested.{at_column}
use Rattle.wd_varied.proofs.suggested.add_each.Given as goal

abbrev pub invariant-loop-value : goal.invariant-loop-value
invariant-loop-value l = l.list.items ≡ l.initial.list.items ++ map (at_column l.table l.column) l.yielded
