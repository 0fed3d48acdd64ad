use Rattle.std.proofs.Common.{◌≡◌}
use Rattle.wd_value.specs.Bags.{positions}
use Rattle.wd_column_store.proofs.numbering.all_positions.Given as goal

abbrev pub invariant-loop-position : goal.invariant-loop-position
invariant-loop-position l = l.all.items ≡ positions l.position
