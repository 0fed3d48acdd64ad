use Rattle.std.proofs.Common.{◌≡◌, ◌++◌}
use Rattle.wd_joined.proofs.lists.appended.Given as goal

abbrev pub invariant-loop-item : goal.invariant-loop-item
invariant-loop-item g l = l.all.items ≡ l.fn.first.items ++ l.yielded
