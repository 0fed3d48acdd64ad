use Rattle.std.proofs.Common.{ap, ◌∙◌}
use Rattle.wd_certificate.specs.Json.{kept_json}
use Rattle.wd_certificate.proofs.Seen.{same_map}
use Rattle.wd_certificate.proofs.parts.KeptFromTokens.read.Goals as goal

pub returns-in-Some-clause-ok : goal.returns-in-Some-clause-ok
returns-in-Some-clause-ok c =
    let done = rw c.in-Some.is at c.in_ok-to.ensures.ok in
    (done.0, done.1, done.2 ∙ ap (λ to. kept_json (record { to = to; trace = c.in-Some.trace })) (same_map c.in-Some.to.items))

pub returns-in-None-clause-ok : goal.returns-in-None-clause-ok
returns-in-None-clause-ok c =
    let done = rw c.in-None.is at c.in_ok-to.ensures.ok in
    (done.0, done.1, λ k. done.2 (k.to, k.trace))
