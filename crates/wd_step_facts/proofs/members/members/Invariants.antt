use Rattle.std.proofs.Common.{◌≡◌, take}
use Rattle.wd_step_facts.specs.Facts.{columns_named}
use Rattle.wd_step_facts.proofs.members.members.Given as goal

abbrev pub invariant-loop-column : goal.invariant-loop-column
invariant-loop-column l = l.list.items ≡ columns_named (take l.column-index l.columns)
