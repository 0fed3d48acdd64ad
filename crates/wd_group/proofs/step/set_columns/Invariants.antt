use Rattle.std.proofs.Common.{◌≡◌}
use Rattle.wd_group.specs.Sets.{set_columns}
use Rattle.wd_group.proofs.step.set_columns.Given as goal

abbrev pub invariant-loop-column : goal.invariant-loop-column
invariant-loop-column l = l.found.items ≡ set_columns l.column l.set
