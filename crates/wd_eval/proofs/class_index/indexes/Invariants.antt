use Rattle.wd_plan.specs.Plans.{window_of}
use Rattle.wd_eval.specs.Windows.{orderings_of}
use Rattle.wd_eval.specs.ClassIndexes.{AreClassIndexes}
use Rattle.wd_eval.proofs.class_index.indexes.Given as goal

abbrev pub invariant-loop-number : goal.invariant-loop-number
invariant-loop-number l = AreClassIndexes (window_of l.window) l.rows (orderings_of l.choice) l.first l.number l.indexes.items
