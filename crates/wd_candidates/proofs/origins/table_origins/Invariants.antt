use Rattle.std.proofs.Common.{◌≡◌}
use Rattle.wd_candidates.specs.AllOrigins.{table_origins}
use Rattle.wd_candidates.proofs.origins.table_origins.Given as goal

abbrev pub invariant-loop-column : goal.invariant-loop-column
invariant-loop-column l = l.origins.items ≡ table_origins l.table l.column
