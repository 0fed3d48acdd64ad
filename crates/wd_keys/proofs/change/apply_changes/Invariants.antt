use Rattle.std.proofs.Common.{drop}
use Rattle.wd_keys.proofs.Putting.{IsPutUpTo}
use Rattle.wd_keys.proofs.change.apply_changes.Given as goal

abbrev pub invariant-loop-change : goal.invariant-loop-change
invariant-loop-change l = IsPutUpTo l.text l.changes (drop l.change-index l.changes) l.start l.out.items
