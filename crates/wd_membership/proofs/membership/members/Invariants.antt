use Rattle.std.proofs.Common.{◌≡◌, ◌++◌, false, length, map}
use Rattle.wd_membership.specs.Memberships.{members}
use Rattle.wd_membership.specs.Named.{conjunct, member}
use Rattle.wd_membership.proofs.membership.members.Given as goal

abbrev pub invariant-loop-rest : goal.invariant-loop-rest
invariant-loop-rest l = map member l.members.items ++ members l.is_after (map conjunct l.rest) ≡ members false (map conjunct l.fn.conjuncts)

abbrev pub decreases-loop-rest : goal.decreases-loop-rest
decreases-loop-rest l = length l.rest
