use Rattle.std.proofs.Common.{length, Ok}
use Rattle.wd_plan.specs.Plans.{window_of}
use Rattle.wd_eval.specs.Windows.{orderings_of}
use Rattle.wd_eval.specs.ClassIndexes.{AreClassIndexes}
use Rattle.wd_eval.specs.Ties.{ArePut}
use Rattle.wd_eval.proofs.class_index.sorted_indexes.Given as goal

abbrev pub invariant-loop-number : goal.invariant-loop-number
invariant-loop-number l = record {
  put : ArePut (window_of l.window).classes (Ok l.rows) l.turned l.number (orderings_of l.fn.made.items) (orderings_of l.made.items);
  indexes : AreClassIndexes (window_of l.window) l.rows (orderings_of l.made.items) (length (orderings_of l.fn.made.items)) l.number l.indexes.items;
}
