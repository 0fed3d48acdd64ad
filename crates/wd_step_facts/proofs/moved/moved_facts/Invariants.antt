use Rattle.std.proofs.Common.{◌≡◌, ◌+◌, ◌-◌, true, map, take, drop}
use Rattle.std.specs.List.{list_all}
use Rattle.wd_step_facts.specs.Facts.{fact_of, is_plain_fact, moved_facts}
use Rattle.wd_step_facts.proofs.moved.moved_facts.Given as goal

abbrev pub invariant-loop-fact : goal.invariant-loop-fact
invariant-loop-fact l =
    (map fact_of l.list.items ≡ moved_facts (λ c. l.by + c) l.row (map fact_of (take l.fact-index l.facts)))
    × (list_all (is_plain_fact (65536 - l.by)) (map fact_of (drop l.fact-index l.facts)) ≡ true)
