use Rattle.std.proofs.Common.{◌≡◌, take}
use Rattle.wd_step_facts.specs.Apart.{marks}
use Rattle.wd_step_facts.proofs.apart.marks_of.Given as goal

abbrev pub invariant-loop-column : goal.invariant-loop-column
invariant-loop-column l = l.marks.items ≡ marks (take l.column-index l.columns) l.set
