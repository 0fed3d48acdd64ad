use Rattle.std.proofs.Common.{◌≡◌, ◌+◌, ◌-◌, drop, map, true}
use Rattle.std.specs.List.{list_all}
use Rattle.wd_step_facts.specs.declared.facts.Member.{Member}
use Rattle.wd_step_facts.specs.Facts.{is_plain, moved}
use Rattle.wd_sets.specs.Sets.{has}
use Rattle.wd_sets.specs.Reaches.{also}
use Rattle.wd_traces.proofs.reached.insert_moved.Given as goal

abbrev pub invariant-loop-member : goal.invariant-loop-member
invariant-loop-member l =
    (list_all (is_plain (65536 - l.by)) (drop l.member-index l.members) ≡ true)
    × ((m : Member) → also (has l.set) (map (moved (λ c. l.by + c) l.row) (drop l.member-index l.members)) m ≡ also (has l.fn.set) (map (moved (λ c. l.by + c) l.row) l.members) m)
