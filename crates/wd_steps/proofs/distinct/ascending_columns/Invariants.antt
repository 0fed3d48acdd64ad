use Rattle.std.proofs.Common.{◌≡◌, map}
use Rattle.wd_value.specs.Bags.{positions}
use Rattle.wd_value.specs.Keys.{ascending}
use Rattle.wd_steps.proofs.distinct.ascending_columns.Given as goal

abbrev pub invariant-loop-column : goal.invariant-loop-column
invariant-loop-column l = l.columns.items ≡ map ascending (positions l.column)
