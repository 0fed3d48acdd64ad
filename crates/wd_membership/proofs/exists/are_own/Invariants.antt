use Rattle.std.proofs.Common.{◌≡◌, length, map}
use Rattle.wd_membership.specs.Memberships.{are_own}
use Rattle.wd_membership.specs.Named.{conjunct}
use Rattle.wd_membership.proofs.exists.are_own.Given as goal

abbrev pub invariant-loop-conjuncts : goal.invariant-loop-conjuncts
invariant-loop-conjuncts l = are_own l.alias (map conjunct l.conjuncts) ≡ are_own l.alias (map conjunct l.initial.conjuncts)

abbrev pub decreases-loop-conjuncts : goal.decreases-loop-conjuncts
decreases-loop-conjuncts l = length l.conjuncts
