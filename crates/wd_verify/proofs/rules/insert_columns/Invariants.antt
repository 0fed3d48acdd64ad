use Rattle.std.proofs.Common.{◌≡◌, drop}
use Rattle.wd_step_facts.specs.declared.facts.Member.{Member}
use Rattle.wd_step_facts.specs.Facts.{columns_named}
use Rattle.wd_sets.specs.Sets.{has}
use Rattle.wd_sets.specs.Reaches.{also}
use Rattle.wd_verify.proofs.rules.insert_columns.Given as goal

abbrev pub invariant-loop-column : goal.invariant-loop-column
invariant-loop-column l = (m : Member) → also (has l.set) (columns_named (drop l.column-index l.columns)) m ≡ also (has l.fn.set) (columns_named l.columns) m
