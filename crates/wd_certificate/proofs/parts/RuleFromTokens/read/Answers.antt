use Rattle.wd_certificate.specs.Json.{rule_word, rule_trace}
use Rattle.wd_certificate.proofs.parts.RuleFromTokens.read.Goals as goal

pub returns-in-None-clause-ok : goal.returns-in-None-clause-ok
returns-in-None-clause-ok c =
    let done = rw c.in-None.is at c.in_ok-members.ensures.ok in
    (done.0, done.1, λ r. done.2 (rule_word r, rule_trace r))
