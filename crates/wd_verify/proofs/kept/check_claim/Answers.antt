use Rattle.std.proofs.Common.{◌≡◌, ◌∙◌, Some, ap, refl}
use Rattle.std.proofs.lemmas.Option.{slice_get_past, slice_get_read}
use Rattle.wd_certificate.specs.Certificates.{kept_of}
use Rattle.wd_rules.specs.Rules.{kept_refusal}
use Rattle.wd_node_facts.specs.Seen.{seen_of}
use Rattle.wd_verify.specs.Lean.{lean_kept}
use Rattle.wd_verify.specs.Shown.{claim_refusal, evidence_with, refusal_of, traced_of}
use Rattle.wd_verify.proofs.Claims.{passed, refused}
use Rattle.wd_verify.proofs.Judged.{again_passed, again_refused, by_none, by_shown}
use Rattle.wd_verify.proofs.kept.check_claim.Goals as goal

pub returns-in-None-clause-refused : goal.returns-in-None-clause-refused
returns-in-None-clause-refused c =
    λ memory. by_none c.args.evidence.now c.args.traces.now c.args.columns (kept_of c.args.kept.now) c.requires.followed (slice_get_past c.args.traces.now c.args.kept.now.trace c.in-None.ensures.lookup.3)

-- by the trace that was kept
kept_is : (c : goal.After-check_kept) → refusal_of c.check_kept.result ≡ claim_refusal (evidence_with c.args.evidence.now c.args.traces.now) c.args.columns (lean_kept (kept_of c.args.kept.now))
kept_is c =
    let shown = traced_of c.in-Some-kept.followed.now in
    c.check_kept.ensures
    ∙ ap (λ targets. kept_refusal c.args.evidence.now.node (seen_of c.args.evidence.now.known.facts) c.args.columns targets (Some shown)) c.deref.ensures.value
    ∙ by_shown c.args.evidence.now c.args.traces.now c.args.columns (kept_of c.args.kept.now) c.requires.followed shown (c.requires.followed.own c.args.kept.now.trace shown c.in-Some-kept.ensures)

pub returns-in-Some-kept-clause-passed : goal.returns-in-Some-kept-clause-passed
returns-in-Some-kept-clause-passed c = passed c.check_kept.result _ (kept_is c)

pub returns-in-Some-kept-clause-refused : goal.returns-in-Some-kept-clause-refused
returns-in-Some-kept-clause-refused c = refused c.check_kept.result _ (kept_is c)

pub returns-in-None-kept-clause-passed : goal.returns-in-None-kept-clause-passed
returns-in-None-kept-clause-passed c =
    let h = c.in-Some.ensures.lookup in
    again_passed c.args.evidence.now c.args.traces.now c.args.columns (kept_of c.args.kept.now) c.requires.followed c.in-Some.trace.now (slice_get_read c.args.traces.now _ c.args.kept.now.trace c.in-Some.trace.now refl h.3.0 h.1) c.deref-in-None-kept.result.now c.deref-in-None-kept.ensures.value c.check_again.result c.check_again.ensures.passed

pub returns-in-None-kept-clause-refused : goal.returns-in-None-kept-clause-refused
returns-in-None-kept-clause-refused c =
    let h = c.in-Some.ensures.lookup in
    again_refused c.args.evidence.now c.args.traces.now c.args.columns (kept_of c.args.kept.now) c.requires.followed c.in-Some.trace.now (slice_get_read c.args.traces.now _ c.args.kept.now.trace c.in-Some.trace.now refl h.3.0 h.1) c.deref-in-None-kept.result.now c.deref-in-None-kept.ensures.value c.check_again.result c.check_again.ensures.refused
