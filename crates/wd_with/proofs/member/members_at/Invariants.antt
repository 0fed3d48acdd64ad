use Rattle.std.proofs.Common.{◌≡◌, ◌-◌, map}
use Rattle.wd_with.specs.Members.{members_at, most_members}
use Rattle.wd_with.proofs.MemberFacts.{following}
use Rattle.wd_with.specs.Named.{named_query}
use Rattle.wd_with.proofs.member.members_at.Given as goal

abbrev pub invariant-loop : goal.invariant-loop
invariant-loop l = following (map named_query l.members.items) (members_at (most_members - l.counter) l.rest) ≡ members_at most_members l.fn.tokens
