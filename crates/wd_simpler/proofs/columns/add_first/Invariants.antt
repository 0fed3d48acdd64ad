use Rattle.wd_value.specs.Bags.{positions}
use Rattle.wd_simpler.specs.Sets.{HasAlso}
use Rattle.wd_simpler.proofs.columns.add_first.Given as goal

abbrev pub invariant-loop-column : goal.invariant-loop-column
invariant-loop-column l = HasAlso l.initial.set (positions l.column) l.set
