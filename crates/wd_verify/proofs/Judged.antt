-- Kept facts are judged by what all traces of their entry show.
use Rattle.std.proofs.Common.{◌≡◌, ◌≢◌, ℕ, Bool, IfOk, IfErr, List, map, slice_get, Option, Some, None, option_map, ap, ◌∙◌, sym, Result, Ok}
use Rattle.std.proofs.lemmas.Option.{slice_get-map}
use Rattle.std.proofs.lemmas.Result.{IfErr-weaker, IfOk-weaker}
use Rattle.wd_certificate.specs.Certificates.{KeptRecord, TraceRecord, trace_of}
use Rattle.wd_certificate.specs.declared.certificate.Target.{Target}
use Rattle.wd_certificate.specs.declared.certificate.Trace.{Trace}
use Rattle.wd_certificate.specs.declared.error.CertError.{CertError}
use Rattle.wd_certificate.specs.declared.error.CertError.TheVariants.{OutOfMemory, OutOfRange}
use Rattle.wd_step_facts.specs.declared.facts.Member.{Member}
use Rattle.wd_step_facts.specs.Facts.{FactList}
use Rattle.wd_rules.specs.Rules.{kept_refusal, member_of, or_else}
use Rattle.wd_rules.specs.Traces.{Traced, each_traced, traced}
use Rattle.wd_node_facts.specs.Seen.{seen_of}
use Rattle.wd_verify.specs.Lean.{lean_kept, lean_traces}
use Rattle.wd_traces.specs.Once.{lean_trace, once}
use Rattle.wd_verify.specs.Shown.{IsFollowed, claim_refusal, evidence_with, shown_from, shown_or_none}
use Rattle.wd_verify.specs.declared.evidence.Evidence.{Evidence}
use Rattle.wd_verify.proofs.Good.{each_at, each_none}
use Rattle.wd_verify.proofs.LeanEntry.{kept_lean}

module _ (evidence : Evidence) (traces : List Trace) (columns : ℕ) (kept : KeptRecord) (followed : IsFollowed evidence traces) where
  abbrev facts : FactList
  facts = seen_of evidence.known.facts

  abbrev refusal : Option CertError
  refusal = claim_refusal (evidence_with evidence traces) columns (lean_kept kept)

  shown_is : shown_or_none (each_traced evidence.node facts (lean_traces traces)) ≡ followed.shown
  shown_is = ap shown_or_none followed.traced

  lean_at : slice_get (lean_traces traces) kept.trace ≡ option_map lean_trace (option_map trace_of (slice_get traces kept.trace))
  lean_at = slice_get-map lean_trace (map trace_of traces) kept.trace ∙ ap (option_map lean_trace) (slice_get-map trace_of traces kept.trace)

  -- by no trace
  pub by_none : slice_get traces kept.trace ≡ None → refusal ≡ Some (OutOfRange evidence.node)
  by_none at =
      let none : slice_get (lean_traces traces) kept.trace ≡ None = lean_at ∙ ap (λ o. option_map lean_trace (option_map trace_of o)) at in
      ap (kept_refusal evidence.node facts columns (once member_of kept.to)) (ap (λ s. slice_get s kept.trace) shown_is ∙ each_none evidence.node facts (lean_traces traces) followed.shown followed.traced kept.trace none)

  -- by a trace that shows this
  pub by_shown : (shown : Traced) → slice_get followed.shown kept.trace ≡ Some shown → kept_refusal evidence.node facts columns kept.to (Some shown) ≡ refusal
  by_shown shown at =
      kept_lean evidence.node facts columns kept.to (Some shown)
      ∙ ap (kept_refusal evidence.node facts columns (once member_of kept.to)) (sym at ∙ ap (λ s. slice_get s kept.trace) (sym shown_is))

  -- by a trace that is followed again, whose refusal is this one
  module _ (trace : Trace) (at : slice_get traces kept.trace ≡ Some trace) (targets : List Target) (same : targets ≡ kept.to) where
    abbrev lean : TraceRecord
    lean = lean_trace (trace_of trace)

    abbrev IsRefusal : Option CertError → Type 0
    IsRefusal given = (has : Member → Bool) → traced evidence.node facts lean ≡ Ok has → kept_refusal evidence.node facts columns targets (Some (shown_from lean has)) ≡ given

    by_again : (given : Option CertError) → IsRefusal given → refusal ≡ given
    by_again given is =
        let own = each_at evidence.node facts (lean_traces traces) followed.shown followed.traced kept.trace lean (lean_at ∙ ap (λ o. option_map lean_trace (option_map trace_of o)) at) in
        sym (by_shown (shown_from lean own.0) own.2) ∙ ap (λ to. kept_refusal evidence.node facts columns to (Some (shown_from lean own.0))) (sym same) ∙ is own.0 own.1

    pub again_passed : (r : Result (Unit {0}) CertError) → IfOk r (λ done. IsRefusal None) → IfOk r (λ done. refusal ≡ None)
    again_passed r h = IfOk-weaker r (λ done. IsRefusal None) (λ done. refusal ≡ None) (λ done. by_again None) h

    pub again_refused : (r : Result (Unit {0}) CertError) → IfErr r (λ e. e ≢ OutOfMemory → IsRefusal (Some e)) → IfErr r (λ e. e ≢ OutOfMemory → refusal ≡ Some e)
    again_refused r h = IfErr-weaker r (λ e. e ≢ OutOfMemory → IsRefusal (Some e)) (λ e. e ≢ OutOfMemory → refusal ≡ Some e) (λ e is memory. by_again (Some e) (is memory)) h

-- ---- a check after another one that passed

module _ (refusal first later : Option CertError) (is : refusal ≡ or_else first later) (none : first ≡ None) where
  later_is : refusal ≡ later
  later_is = is ∙ ap (λ o. or_else o later) none

  pub later_passed : (r : Result (Unit {0}) CertError) → IfOk r (λ done. later ≡ None) → IfOk r (λ done. refusal ≡ None)
  later_passed r h = IfOk-weaker r (λ done. later ≡ None) (λ done. refusal ≡ None) (λ done e. later_is ∙ e) h

  pub later_refused : (r : Result (Unit {0}) CertError) → IfErr r (λ e. e ≢ OutOfMemory → later ≡ Some e) → IfErr r (λ e. e ≢ OutOfMemory → refusal ≡ Some e)
  later_refused r h = IfErr-weaker r (λ e. e ≢ OutOfMemory → later ≡ Some e) (λ e. e ≢ OutOfMemory → refusal ≡ Some e) (λ e f memory. later_is ∙ f memory) h
