use Rattle.std.proofs.Common.{◌≡◌, ◌∷◌, length, map}
use Rattle.wd_distinct_counts.specs.Counts.{are_theirs}
use Rattle.wd_distinct_counts.proofs.count.are_theirs.Given as goal

abbrev pub invariant-loop-rest : goal.invariant-loop-rest
invariant-loop-rest l = are_theirs (l.fn.column ∷ map (λ other. other.now) l.fn.columns) l.rest ≡ are_theirs (l.fn.column ∷ map (λ other. other.now) l.fn.columns) l.fn.tokens

abbrev pub decreases-loop-rest : goal.decreases-loop-rest
decreases-loop-rest l = length l.rest
