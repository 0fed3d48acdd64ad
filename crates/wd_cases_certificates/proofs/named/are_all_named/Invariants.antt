use Rattle.std.proofs.Common.{◌≡◌, drop}
use Rattle.std.specs.List.{list_all}
use Rattle.wd_close.specs.Closure.{is_named}
use Rattle.wd_step_facts.specs.Facts.{facts_of}
use Rattle.wd_cases_certificates.proofs.named.are_all_named.Given as goal

abbrev pub invariant-loop-member : goal.invariant-loop-member
invariant-loop-member l = list_all (is_named (facts_of l.facts)) (drop l.member-index l.members) ≡ list_all (is_named (facts_of l.facts)) l.members
