use Rattle.std.proofs.Common.{◌≡◌, length, map}
use Rattle.wd_with.specs.Members.{has_name}
use Rattle.wd_with.specs.Named.{named_query}
use Rattle.wd_with.proofs.member.has_name.Given as goal

abbrev pub invariant-loop-members : goal.invariant-loop-members
invariant-loop-members l = has_name l.name (map named_query l.members) ≡ has_name l.name (map named_query l.initial.members)

abbrev pub decreases-loop-members : goal.decreases-loop-members
decreases-loop-members l = length l.members
