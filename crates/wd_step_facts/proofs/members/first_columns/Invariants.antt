use Rattle.std.proofs.Common.{◌≡◌}
use Rattle.wd_step_facts.specs.Steps.{all_columns}
use Rattle.wd_step_facts.proofs.members.first_columns.Given as goal

abbrev pub invariant-loop-column : goal.invariant-loop-column
invariant-loop-column l = l.columns.items ≡ all_columns l.column
