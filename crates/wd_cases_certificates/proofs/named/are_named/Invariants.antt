use Rattle.std.proofs.Common.{◌≡◌, ◌&&◌, drop, map}
use Rattle.std.specs.List.{list_all}
use Rattle.wd_close.specs.Closure.{is_named}
use Rattle.wd_step_facts.specs.Facts.{Fact, fact_of, facts_of}
use Rattle.wd_cases_certificates.proofs.named.are_named.Given as goal

abbrev pub invariant-loop-fact : goal.invariant-loop-fact
invariant-loop-fact l = list_all (λ (fact : Fact). list_all (is_named (facts_of l.facts)) fact.from && list_all (is_named (facts_of l.facts)) fact.to) (map fact_of (drop l.fact-index l.facts.list.items)) ≡ list_all (λ (fact : Fact). list_all (is_named (facts_of l.facts)) fact.from && list_all (is_named (facts_of l.facts)) fact.to) (map fact_of l.facts.list.items)
