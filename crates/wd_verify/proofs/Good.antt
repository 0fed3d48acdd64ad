-- Traces that are all good, one by one, and their columns.
use Rattle.std.proofs.Common.{◌≡◌, ℕ, zero, suc, ◌+◌, ◌<◌, arith, drop, get_or, length, Bool, true, map, slice_get, Option, Some, None, option_map, List, [], ◌∷◌, ◌++◌, refl, ap, ◌∙◌, sym, subst, Ok, Err}
use Rattle.std.proofs.Math.Seq.{drop-cons}
use Rattle.std.proofs.lemmas.List.{append-nil, append_assoc, length-append, length-map, map-append}
use Rattle.std.proofs.lemmas.Option.{none-some, same_Some, slice_get-map}
use Rattle.wd_certificate.specs.Certificates.{TraceRecord, trace_of}
use Rattle.wd_certificate.specs.declared.certificate.Trace.{Trace}
use Rattle.wd_certificate.specs.declared.error.CertError.{CertError}
use Rattle.wd_step_facts.specs.declared.facts.Member.{Member}
use Rattle.wd_step_facts.specs.Facts.{FactList}
use Rattle.wd_rules.specs.Rules.{trace_or}
use Rattle.wd_rules.specs.Traces.{Traced, each_traced, traced}
use Rattle.wd_rules.proofs.Traces.{parts_of}
use Rattle.wd_node_facts.specs.Seen.{columns_or_none}
use Rattle.wd_verify.specs.Lean.{lean_traces}
use Rattle.wd_traces.specs.Once.{lean_trace}
use Rattle.wd_verify.specs.Named.{is_marked}
use Rattle.wd_verify.specs.Shown.{AreGood, HaveColumns, shown_from}
use Rattle.wd_verify.proofs.Followed.{appended}
use Rattle.wd_traces.proofs.LeanTrace.{traced_lean}

-- ---- what the trace with a number shows

-- the one with a number is good, and shows what follows from it
pub each_at : (node : ℕ) (facts : FactList) (traces : List TraceRecord) (shown : List Traced) → each_traced node facts traces ≡ Ok shown → (n : ℕ) (trace : TraceRecord) → slice_get traces n ≡ Some trace → (has : Member → Bool) × (traced node facts trace ≡ Ok has) × (slice_get shown n ≡ Some (shown_from trace has))
each_at node facts [] shown e n trace at = absurd (none-some trace at)
each_at node facts (first ∷ traces) shown e zero trace at =
    let parts = parts_of node facts first traces shown e in
    let same : first ≡ trace = same_Some first trace at in
    (parts.has, ap (traced node facts) (sym same) ∙ parts.first, ap (λ s. slice_get s zero) parts.is ∙ (λ i. Some (shown_from (same i) parts.has)))
each_at node facts (first ∷ traces) shown e (suc n) trace at =
    let parts = parts_of node facts first traces shown e in
    let later = each_at node facts traces parts.rest parts.later n trace at in
    (later.0, later.1, ap (λ s. slice_get s (suc n)) parts.is ∙ later.2)

-- past the last trace nothing is shown
pub each_none : (node : ℕ) (facts : FactList) (traces : List TraceRecord) (shown : List Traced) → each_traced node facts traces ≡ Ok shown → (n : ℕ) → slice_get traces n ≡ None → slice_get shown n ≡ None
each_none node facts [] shown e n at = let f : shown ≡ [] = cc in ap (λ s. slice_get s n) f
each_none node facts (first ∷ traces) shown e zero at = absurd (none-some first (sym at))
each_none node facts (first ∷ traces) shown e (suc n) at =
    let parts = parts_of node facts first traces shown e in
    ap (λ s. slice_get s (suc n)) parts.is ∙ each_none node facts traces parts.rest parts.later n at

-- ---- columns that are listed trace by trace

abbrev from_of : TraceRecord → List ℕ
from_of trace = trace.from

module _ (node : ℕ) (facts : FactList) (marks : List Bool) where
  -- so far: the columns of the first traces, where these have a mark, and good traces that are left
  pub record HaveColumnsTo (all rest : List TraceRecord) (columns : List (List ℕ)) : Type 0 where
    pub before : List TraceRecord
    pub is : all ≡ before ++ rest
    pub good : AreGood node facts rest
    pub long : length columns ≡ length before
    pub at : (n : ℕ) → is_marked marks n ≡ true → slice_get columns n ≡ slice_get (map from_of before) n

  pub no_columns : (traces : List TraceRecord) → AreGood node facts traces → HaveColumnsTo traces traces []
  no_columns traces good = record { before = []; is = refl; good = good; long = refl; at = λ n m. refl }

  module _ (traces : List Trace) (i : ℕ) (item : Trace) (old : List (List ℕ)) (h : i < length traces) (is : item ≡ get_or traces i item) (so_far : HaveColumnsTo (lean_traces traces) (lean_traces (drop i traces)) old) where
    parts : drop i traces ≡ item ∷ drop (i + 1) traces
    parts = let next : suc i ≡ i + 1 = omega arith in drop-cons traces i item h ∙ (λ j. sym is j ∷ drop (next j) traces)

    abbrev lean : TraceRecord
    lean = lean_trace (trace_of item)

    rest_good : AreGood node facts (lean ∷ lean_traces (drop (i + 1) traces))
    rest_good = subst (λ xs. AreGood node facts (lean_traces xs)) parts so_far.good

    -- the next trace is good
    pub next_good : (refusal : CertError) → traced node facts (trace_of item) ≡ Err refusal → ⊥
    next_good refusal e =
        let first = (parts_of node facts lean (lean_traces (drop (i + 1) traces)) rest_good.0 rest_good.1).first in
        let same = traced_lean node facts (trace_of item) in
        absurd (cc)

    pub columns_next : (asked : Bool) (columns : List ℕ) → asked ≡ is_marked marks (length old) → (asked ≡ true → columns ≡ lean.from) → HaveColumnsTo (lean_traces traces) (lean_traces (drop (i + 1) traces)) (old ++ columns ∷ [])
    columns_next asked columns marked own =
        let later = parts_of node facts lean (lean_traces (drop (i + 1) traces)) rest_good.0 rest_good.1 in
        let long : length old ≡ length (map from_of so_far.before) = so_far.long ∙ sym (length-map so_far.before from_of) in
        record {
          before = so_far.before ++ lean ∷ [];
          is = so_far.is ∙ ap (λ xs. so_far.before ++ lean_traces xs) parts ∙ sym (append_assoc so_far.before (lean ∷ []) (lean_traces (drop (i + 1) traces)));
          good = (later.rest, later.later);
          long = length-append old (columns ∷ []) ∙ (λ j. so_far.long j + 1) ∙ sym (length-append so_far.before (lean ∷ []));
          at = λ n m.
              appended old (map from_of so_far.before) columns lean.from n long (so_far.at n m) (λ e. own (marked ∙ ap (is_marked marks) (long ∙ sym e) ∙ m))
              ∙ ap (λ xs. slice_get xs n) (sym (map-append from_of so_far.before (lean ∷ [])));
        }

  from_or : (o : Option TraceRecord) → (trace_or o).from ≡ columns_or_none (option_map from_of o)
  from_or None = refl
  from_or (Some trace) = refl

  pub all_columns : (all rest : List TraceRecord) (columns : List (List ℕ)) → rest ≡ [] → HaveColumnsTo all rest columns → HaveColumns (is_marked marks) all columns
  all_columns all rest columns e so_far n m =
      let whole : all ≡ so_far.before = so_far.is ∙ ap (λ xs. so_far.before ++ xs) e ∙ append-nil so_far.before in
      ap (λ xs. (trace_or (slice_get xs n)).from) whole
      ∙ from_or (slice_get so_far.before n)
      ∙ ap columns_or_none (sym (slice_get-map from_of so_far.before n) ∙ sym (so_far.at n m))
