-- Traces after others.
use Rattle.std.proofs.Common.{◌≡◌, ℕ, Bool, true, ◌&&◌, map, nat_lt, slice_get, Option, Some, None, ◌≢◌, IfOk, IfErr, List, [], ◌∷◌, ◌++◌, refl, ap, ◌∙◌, sym, Result, Ok, Err}
use Rattle.std.proofs.lemmas.List.{append_assoc}
use Rattle.std.proofs.lemmas.Bool.{and_parts}
use Rattle.std.specs.List.{list_all}
use Rattle.wd_plan.specs.Plans.{PlanTree}
use Rattle.wd_certificate.specs.Certificates.{KeptRecord, NodeRecord, TraceRecord}
use Rattle.wd_certificate.specs.declared.certificate.Target.{Target}
use Rattle.wd_certificate.specs.declared.certificate.Target.TheVariants as target
use Rattle.wd_certificate.specs.declared.error.CertError.{CertError}
use Rattle.wd_certificate.specs.declared.error.CertError.TheVariants.{OutOfMemory}
use Rattle.wd_step_facts.specs.declared.facts.Member.{Member}
use Rattle.wd_step_facts.specs.Facts.{FactList, columns_named, is_plain, is_plain_fact}
use Rattle.wd_rules.specs.Rules.{claims_refusal, entry_refusal, is_target, kept_fact, member_of, trace_or}
use Rattle.wd_rules.specs.Traces.{Traced, and_then, each_traced, traced}
use Rattle.wd_node_facts.specs.declared.facts.KeptFact.{KeptFact}
use Rattle.wd_verify.specs.Lean.{lean_kept}
use Rattle.wd_traces.specs.Once.{once}
use Rattle.wd_node_facts.specs.Seen.{columns_or_none, fact_by}
use Rattle.wd_verify.specs.Shown.{IsKeptFact, refusal_of}
use Rattle.wd_traces.proofs.Once.{targets_all}

-- traces that are good, after those before
abbrev pub after : List Traced → Result (List Traced) CertError → Result (List Traced) CertError
after before (Ok shown) = Ok (before ++ shown)
after before (Err refusal) = Err refusal

pub after_none : (r : Result (List Traced) CertError) → after [] r ≡ r
after_none (Ok shown) = refl
after_none (Err refusal) = refl

one_after : (before : List Traced) (t : Traced) (r : Result (List Traced) CertError) → after before (and_then r (λ shown. Ok (t ∷ shown))) ≡ after (before ++ t ∷ []) r
one_after before t (Ok shown) = ap (λ x. Ok x) (joined before)
  where
    joined : (xs : List Traced) → xs ++ t ∷ shown ≡ (xs ++ t ∷ []) ++ shown
    joined xs = sym (append_assoc xs (t ∷ []) shown)
one_after before t (Err refusal) = refl

pub after_one : (node : ℕ) (facts : FactList) (trace : TraceRecord) (traces : List TraceRecord) (before : List Traced) (has : Member → Bool) → traced node facts trace ≡ Ok has → after before (each_traced node facts (trace ∷ traces)) ≡ after (before ++ record { from = trace.from; has = has } ∷ []) (each_traced node facts traces)
after_one node facts trace traces before has e =
    ap (λ r. after before (and_then r (λ has. and_then (each_traced node facts traces) (λ shown. Ok (record { from = trace.from; has = has } ∷ shown))))) e
    ∙ one_after before (record { from = trace.from; has = has }) (each_traced node facts traces)

-- what an entry claims, by its traces
pub traced_claims : (node : ℕ) (facts : FactList) (plan : PlanTree) (entry : NodeRecord) (r : Result (List Traced) CertError) → each_traced node facts entry.traces ≡ r → entry_refusal node facts plan entry ≡ claims_refusal node facts plan entry r
traced_claims node facts plan entry r e = ap (claims_refusal node facts plan entry) e

-- a plain kept fact names columns of the node, and the row
pub plain_to : (columns : ℕ) (traces : List TraceRecord) (kept : KeptRecord) → is_plain_fact columns (kept_fact traces (lean_kept kept)) ≡ true → list_all (is_target columns) kept.to ≡ true
plain_to columns traces kept e = targets_all (is_target columns) kept.to ∙ targets (once member_of kept.to) (and_parts (list_all (is_plain columns) (kept_fact traces (lean_kept kept)).from) (list_all (is_plain columns) (kept_fact traces (lean_kept kept)).to) e).1
  where
    targets : (to : List Target) → list_all (is_plain columns) (map member_of to) ≡ true → list_all (is_target columns) to ≡ true
    targets [] e = refl
    targets (target.Column c ∷ to) e =
        let parts = and_parts (nat_lt c columns) (list_all (is_plain columns) (map member_of to)) e in
        λ i. parts.0 i && targets to parts.1 i
    targets (target.Row ∷ to) e = targets to e

-- the columns of a kept fact are those of its trace
pub fact_is : (traces : List TraceRecord) (columns : List (List ℕ)) (kept : KeptRecord) (fact : KeptFact) → (trace_or (slice_get traces kept.trace)).from ≡ columns_or_none (slice_get columns kept.trace) → IsKeptFact kept fact → fact_by columns fact ≡ kept_fact traces (lean_kept kept)
fact_is traces columns kept fact h is = λ i. record { from = columns_named ((ap (λ n. columns_or_none (slice_get columns n)) is.trace ∙ sym h) i); to = is.to i }

-- ---- what a check answers, by its refusal

pub passed : (r : Result (Unit {0}) CertError) (refusal : Option CertError) → refusal_of r ≡ refusal → IfOk r (λ done. refusal ≡ None)
passed (Ok done) refusal e = sym e
passed (Err other) refusal e = tt

pub refused : (r : Result (Unit {0}) CertError) (refusal : Option CertError) → refusal_of r ≡ refusal → IfErr r (λ e. e ≢ OutOfMemory → refusal ≡ Some e)
refused (Ok done) refusal e = tt
refused (Err other) refusal e = λ memory. sym e
