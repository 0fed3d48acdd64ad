use Rattle.std.proofs.Common.{◌≡◌, map}
use Rattle.wd_value.specs.Bags.{positions}
use Rattle.wd_candidates.specs.AllOrigins.{origin_in}
use Rattle.wd_candidates.proofs.origins.first_origins.Given as goal

abbrev pub invariant-loop-column : goal.invariant-loop-column
invariant-loop-column l = l.list.items ≡ map (origin_in l.origins) (positions l.column)
