use Rattle.wd_eval.specs.Windows.{orderings_of}
use Rattle.wd_eval.specs.ClassIndexes.{AreEmpty}
use Rattle.wd_eval.proofs.orderings.all_empty.Given as goal

abbrev pub invariant-loop-number : goal.invariant-loop-number
invariant-loop-number l = AreEmpty l.number (orderings_of l.choice) l.first
