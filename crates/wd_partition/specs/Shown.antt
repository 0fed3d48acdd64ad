-- How contracts see the code's members.
use Rattle.wd_partition.specs.declared.member.Member.{Member}
use Rattle.wd_partition.specs.Members.{MemberRule}

-- the lists that its references point to, and its place
abbrev pub member_rule : Member → MemberRule
member_rule member = record { positions = member.positions.now; groups = member.groups.now; numbers = member.numbers.now; place = member.place }
