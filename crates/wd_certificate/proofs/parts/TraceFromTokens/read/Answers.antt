use Rattle.std.proofs.Common.{ap₂, ◌∙◌}
use Rattle.wd_certificate.specs.Json.{trace_json}
use Rattle.wd_certificate.proofs.Seen.{same_map}
use Rattle.wd_certificate.proofs.parts.TraceFromTokens.read.Goals as goal

pub returns-in-Some-clause-ok : goal.returns-in-Some-clause-ok
returns-in-Some-clause-ok c =
    let done = rw c.in-Some.is at c.in_ok-from.ensures.ok in
    (done.0, done.1, done.2 ∙ ap₂ (λ from uses. trace_json (record { from = from; uses = uses })) (same_map c.in-Some.from.items) (same_map c.in-Some.uses.items))

pub returns-in-None-clause-ok : goal.returns-in-None-clause-ok
returns-in-None-clause-ok c =
    let done = rw c.in-None.is at c.in_ok-from.ensures.ok in
    (done.0, done.1, λ t. done.2 (t.from, t.uses))
