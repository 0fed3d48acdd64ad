use Rattle.wd_eval.specs.Windows.{orderings_of}
use Rattle.wd_eval.specs.Ties.{IsPutEmpty}
use Rattle.wd_eval.proofs.orderings.put_empty.Given as goal

abbrev pub invariant-loop : goal.invariant-loop
invariant-loop l = IsPutEmpty l.counter (orderings_of l.fn.made.items) (orderings_of l.made.items)
