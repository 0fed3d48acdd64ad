use Rattle.std.proofs.Common.{◌≡◌, ◌++◌, drop, map}
use Rattle.wd_step_facts.specs.Facts.{fact_of}
use Rattle.wd_analyse.specs.Evidence.{closing_of}
use Rattle.wd_analyse.specs.Kept.{kept_fact}
use Rattle.wd_analyse.proofs.kept.kept_facts.Given as goal

abbrev pub invariant-loop-claim : goal.invariant-loop-claim
invariant-loop-claim l = map fact_of l.list.items ++ map (kept_fact l.width) (map closing_of (drop l.claim-index l.claims)) ≡ map (kept_fact l.width) (map closing_of l.claims)
