use Rattle.std.proofs.Common.{◌≡◌, drop, map}
use Rattle.std.specs.List.{list_all}
use Rattle.wd_step_facts.specs.Facts.{fact_of, is_plain_fact}
use Rattle.wd_cases_certificates.proofs.plain.are_plain_facts.Given as goal

abbrev pub invariant-loop-fact : goal.invariant-loop-fact
invariant-loop-fact l = list_all (is_plain_fact l.width) (map fact_of (drop l.fact-index l.facts)) ≡ list_all (is_plain_fact l.width) (map fact_of l.facts)
