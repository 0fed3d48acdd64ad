use Rattle.std.proofs.Common.{◌≡◌, ◌++◌, false, length, map}
use Rattle.wd_membership.specs.Memberships.{pairs_in}
use Rattle.wd_membership.specs.Named.{conjunct, pair}
use Rattle.wd_membership.proofs.exists.pairs_in.Given as goal

abbrev pub invariant-loop-rest : goal.invariant-loop-rest
invariant-loop-rest l = map pair l.pairs.items ++ pairs_in l.fn.alias l.is_after (map conjunct l.rest) ≡ pairs_in l.fn.alias false (map conjunct l.fn.conjuncts)

abbrev pub decreases-loop-rest : goal.decreases-loop-rest
decreases-loop-rest l = length l.rest
