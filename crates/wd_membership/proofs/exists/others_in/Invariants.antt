use Rattle.std.proofs.Common.{◌≡◌, ◌++◌, false, length, map}
use Rattle.wd_membership.specs.Memberships.{others_in}
use Rattle.wd_membership.specs.Named.{conjunct}
use Rattle.wd_membership.proofs.exists.others_in.Given as goal

abbrev pub invariant-loop-rest : goal.invariant-loop-rest
invariant-loop-rest l = map conjunct l.others.items ++ others_in l.fn.alias l.is_after (map conjunct l.rest) ≡ others_in l.fn.alias false (map conjunct l.fn.conjuncts)

abbrev pub decreases-loop-rest : goal.decreases-loop-rest
decreases-loop-rest l = length l.rest
