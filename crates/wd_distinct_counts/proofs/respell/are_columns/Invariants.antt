use Rattle.std.proofs.Common.{◌≡◌, length, map}
use Rattle.wd_distinct_counts.specs.Respelled.{are_columns}
use Rattle.wd_distinct_counts.proofs.respell.are_columns.Given as goal

abbrev pub invariant-loop-keys : goal.invariant-loop-keys
invariant-loop-keys l = are_columns (map (λ key. key.now) l.keys) ≡ are_columns (map (λ key. key.now) l.initial.keys)

abbrev pub decreases-loop-keys : goal.decreases-loop-keys
decreases-loop-keys l = length l.keys
