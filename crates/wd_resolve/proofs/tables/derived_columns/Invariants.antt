use Rattle.std.proofs.Common.{◌≡◌, map, length, vec_len}
use Rattle.wd_resolve.specs.Selected.{derived_column}
use Rattle.wd_resolve.proofs.tables.derived_columns.Given as goal

abbrev pub invariant-loop-output : goal.invariant-loop-output
invariant-loop-output l = (l.columns.items ≡ map (derived_column l.name) l.yielded) × (vec_len l.columns ≡ length l.yielded)
