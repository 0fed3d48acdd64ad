use Rattle.std.proofs.Common.{◌≡◌, length, map}
use Rattle.wd_membership.specs.Memberships.{has_membership}
use Rattle.wd_membership.specs.Named.{member}
use Rattle.wd_membership.proofs.membership.has_membership.Given as goal

abbrev pub invariant-loop-members : goal.invariant-loop-members
invariant-loop-members l = has_membership (map member l.members) ≡ has_membership (map member l.initial.members)

abbrev pub decreases-loop-members : goal.decreases-loop-members
decreases-loop-members l = length l.members
