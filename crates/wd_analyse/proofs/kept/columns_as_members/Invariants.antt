use Rattle.std.proofs.Common.{◌≡◌, ◌++◌, drop}
use Rattle.wd_step_facts.specs.Facts.{columns_named}
use Rattle.wd_analyse.proofs.kept.columns_as_members.Given as goal

abbrev pub invariant-loop-column : goal.invariant-loop-column
invariant-loop-column l = l.list.items ++ columns_named (drop l.column-index l.columns) ≡ columns_named l.columns
