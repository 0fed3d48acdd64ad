use Rattle.std.proofs.Common.{◌≡◌, ℕ, ◌||◌, drop}
use Rattle.wd_sets.specs.Sets.{has_column, is_in}
use Rattle.wd_analyse.proofs.kept.column_set.Given as goal

-- each of the columns is in the set or still to come
abbrev pub invariant-loop-column : goal.invariant-loop-column
invariant-loop-column l = (c : ℕ) → (has_column l.set c || is_in (drop l.column-index l.columns) c) ≡ is_in l.columns c
