use Rattle.std.proofs.Common.{◌≡◌, ◌+◌, ◌-◌, true, map, take, drop}
use Rattle.std.specs.List.{list_all}
use Rattle.wd_step_facts.specs.Facts.{is_plain, moved}
use Rattle.wd_step_facts.proofs.moved.moved_members.Given as goal

abbrev pub invariant-loop-member : goal.invariant-loop-member
invariant-loop-member l = (l.moved.items ≡ map (moved (λ c. l.by + c) l.row) (take l.member-index l.list)) × (list_all (is_plain (65536 - l.by)) (drop l.member-index l.list) ≡ true)
