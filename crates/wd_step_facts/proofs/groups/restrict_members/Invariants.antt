use Rattle.std.proofs.Common.{◌≡◌, filter, take}
use Rattle.wd_step_facts.specs.Facts.{is_plain}
use Rattle.wd_step_facts.proofs.groups.restrict_members.Given as goal

abbrev pub invariant-loop-member : goal.invariant-loop-member
invariant-loop-member l = l.cut.items ≡ filter (is_plain l.columns) (take l.member-index l.list)
