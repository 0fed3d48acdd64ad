use Rattle.std.proofs.Common.{◌≡◌, map}
use Rattle.wd_distinct_on.proofs.ListFacts.{following}
use Rattle.wd_membership.specs.Conjuncts.{conjuncts_at, most_conjuncts}
use Rattle.wd_membership.specs.Named.{conjunct}
use Rattle.wd_membership.proofs.conjunct.conjuncts_at.Given as goal

abbrev pub invariant-loop-rest : goal.invariant-loop-rest
invariant-loop-rest l = following (map conjunct l.conjuncts.items) (conjuncts_at l.left l.rest) ≡ conjuncts_at most_conjuncts l.fn.tokens

abbrev pub decreases-loop-rest : goal.decreases-loop-rest
decreases-loop-rest l = l.left
