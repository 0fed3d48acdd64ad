use Rattle.std.proofs.Common.{◌≡◌}
use Rattle.wd_step_facts.specs.Facts.{columns_named}
use Rattle.wd_node_facts.specs.Seen.{seen_of}
use Rattle.wd_step_facts.specs.Steps.{all_columns}
use Rattle.wd_sets.specs.Sets.{has}
use Rattle.wd_sets.specs.Reaches.{reaches_each}
use Rattle.wd_verify.proofs.Columns.{columns_from}
use Rattle.wd_verify.proofs.rules.reaches_all.Given as goal

abbrev pub invariant-loop-column : goal.invariant-loop-column
invariant-loop-column l = reaches_each (seen_of l.facts) (has l.set) (columns_named (columns_from l.column l.columns)) ≡ reaches_each (seen_of l.facts) (has l.set) (columns_named (all_columns l.columns))
