use Rattle.std.proofs.Common.{◌≡◌, map}
use Rattle.wd_value.specs.Bags.{positions}
use Rattle.wd_joined.proofs.Joining.{own}
use Rattle.wd_joined.proofs.origin.own_origins.Given as goal

abbrev pub invariant-loop-column : goal.invariant-loop-column
invariant-loop-column l = l.origins.items ≡ map own (positions l.column)
