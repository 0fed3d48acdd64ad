use Rattle.std.proofs.Common.{take}
use Rattle.wd_simpler.specs.Sets.{HasAlso}
use Rattle.wd_simpler.proofs.columns.add_columns.Given as goal

abbrev pub invariant-loop-column : goal.invariant-loop-column
invariant-loop-column l = HasAlso l.initial.set (take l.column-index l.columns) l.set
