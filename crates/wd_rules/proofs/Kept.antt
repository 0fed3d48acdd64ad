-- What an entry that is not refused keeps names columns of its node and the row, and holds where the given facts do.
use Rattle.std.proofs.Common.{◌≡◌, ℕ, zero, suc, true, ◌&&◌, List, [], ◌∷◌, map, refl, sym, subst, Option, Some, None, slice_get, nat_lt, Result, Ok, Err}
use Rattle.std.specs.List.{AllByRecursion, list_all}
use Rattle.std.proofs.lemmas.Bool.{and_parts}
use Rattle.wd_plan.specs.Fits.{width}
use Rattle.wd_plan.specs.Plans.{PlanTree}
use Rattle.wd_certificate.specs.Certificates.{KeptRecord, NodeRecord, TraceRecord}
use Rattle.wd_certificate.specs.declared.certificate.Target.{Target}
use Rattle.wd_certificate.specs.declared.certificate.Target.TheVariants as target
use Rattle.wd_certificate.specs.declared.error.CertError.{CertError}
use Rattle.wd_certificate.specs.declared.error.CertError.TheVariants.{OutOfRange, UnreachedClaim}
use Rattle.wd_step_facts.specs.Facts.{columns_named, FactList, Paired, Same, Holds, is_plain, is_plain_fact}
use Rattle.wd_facts.specs.Laws.{AreKept, ArePlain}
use Rattle.wd_facts.proofs.Nodes.{unpaired_hold}
use Rattle.wd_facts.proofs.Sides.{HasSides}
use Rattle.wd_rules.specs.Rules.{EvidenceRecord, claims_refusal, entry_refusal, is_target, keep_refusal, kept_fact, kept_facts, kept_refusal, member_of, refuse_unless, rules_refusal}
use Rattle.wd_sets.specs.Reaches.{reaches_each}
use Rattle.wd_rules.specs.Traces.{Traced, each_traced}
use Rattle.wd_rules.proofs.Refused.{each_passed, first_passed, later_passed, passed}
use Rattle.wd_rules.proofs.Traces.{IsTrue, each_same, each_true, from_is}

targets_plain : (columns : ℕ) (to : List Target) → list_all (is_target columns) to ≡ true → list_all (is_plain columns) (map member_of to) ≡ true
targets_plain columns [] e = refl
targets_plain columns (target.Column c ∷ to) e =
    let parts = and_parts (nat_lt c columns) (list_all (is_target columns) to) e in
    λ i. parts.0 i && targets_plain columns to parts.1 i
targets_plain columns (target.Row ∷ to) e = targets_plain columns to e

columns_plain : (columns : ℕ) (X : List ℕ) → list_all (λ c. nat_lt c columns) X ≡ true → list_all (is_plain columns) (columns_named X) ≡ true
columns_plain columns [] e = refl
columns_plain columns (c ∷ X) e =
    let parts = and_parts (nat_lt c columns) (list_all (λ c. nat_lt c columns) X) e in
    λ i. parts.0 i && columns_plain columns X parts.1 i

-- a trace that shows what is kept
pub record IsShown (facts : FactList) (columns : ℕ) (to : List Target) (o : Option Traced) : Type 0 where
  pub trace : Traced
  pub at : o ≡ Some trace
  pub targets : list_all (is_target columns) to ≡ true
  pub columns_from : list_all (λ c. nat_lt c columns) trace.from ≡ true
  pub reached : reaches_each facts trace.has (map member_of to) ≡ true

is_shown : (node : ℕ) (facts : FactList) (columns : ℕ) (to : List Target) (o : Option Traced) → kept_refusal node facts columns to o ≡ None → IsShown facts columns to o
is_shown node facts columns to None e = cc
is_shown node facts columns to (Some trace) e =
    let from = list_all (λ c. nat_lt c columns) trace.from in
    let reached = reaches_each facts trace.has (map member_of to) in
    let first = refuse_unless (list_all (is_target columns) to) (OutOfRange node) in
    let second = refuse_unless (from && reached) (UnreachedClaim node) in
    let claim = and_parts from reached (passed (from && reached) (UnreachedClaim node) (later_passed first second e)) in
    record { trace = trace; at = refl; targets = passed (list_all (is_target columns) to) (OutOfRange node) (first_passed first second e); columns_from = claim.0; reached = claim.1 }

pub at_number : (P : Traced → Type 0) (list : List Traced) (i : ℕ) (t : Traced) → AllByRecursion P list → slice_get list i ≡ Some t → P t
at_number P [] i t a e = cc
at_number P (x ∷ list) zero t a e = let f : x ≡ t = cc in subst P f a.0
at_number P (x ∷ list) (suc i) t a e = at_number P list i t a.1 e

-- ---- what is kept names columns of the node and the row

module _ (node : ℕ) (facts : FactList) (columns : ℕ) (traces : List TraceRecord) (shown : List Traced) (are : each_traced node facts traces ≡ Ok shown) where
  abbrev pub evidence : EvidenceRecord
  evidence = record { node = node; facts = facts; shown = shown }

  pub is_plain_kept : (kept : KeptRecord) → kept_refusal node facts columns kept.to (slice_get shown kept.trace) ≡ None → is_plain_fact columns (kept_fact traces kept) ≡ true
  is_plain_kept kept e =
      let is = is_shown node facts columns kept.to (slice_get shown kept.trace) e in
      let from = from_is node facts traces shown are kept.trace is.trace is.at in
      let from_columns = subst (λ X. list_all (is_plain columns) (columns_named X) ≡ true) (sym from) (columns_plain columns is.trace.from is.columns_from) in
      λ i. from_columns i && targets_plain columns kept.to is.targets i

  pub keeps_plain : (keep : List KeptRecord) → keep_refusal evidence columns keep ≡ None → ArePlain columns (map (kept_fact traces) keep)
  keeps_plain [] e = tt
  keeps_plain (kept ∷ keep) e =
      let own = kept_refusal node facts columns kept.to (slice_get shown kept.trace) in
      let later = keep_refusal evidence columns keep in
      (is_plain_kept kept (first_passed own later e), keeps_plain keep (later_passed own later e))

-- what an entry that is not refused keeps
pub entry_plain : (node : ℕ) (facts : FactList) (plan : PlanTree) (entry : NodeRecord) → entry_refusal node facts plan entry ≡ None → ArePlain (width plan) (kept_facts entry)
entry_plain node facts plan entry e = by (each_traced node facts entry.traces) refl e
  where
    by : (shown : Result (List Traced) CertError) → each_traced node facts entry.traces ≡ shown → claims_refusal node facts plan entry shown ≡ None → ArePlain (width plan) (kept_facts entry)
    by (Ok shown) are f =
        let grounds = evidence node facts (width plan) entry.traces shown are in
        keeps_plain node facts (width plan) entry.traces shown are entry.keep (first_passed (keep_refusal grounds (width plan) entry.keep) (rules_refusal grounds plan entry) f)
    by (Err refusal) are f = cc

-- ---- and holds

module _ (n : Paired) (facts : FactList) (sides : HasSides n facts.split facts.columns) (hold : AllByRecursion (Holds n) facts.list) (node columns : ℕ) (traces : List TraceRecord) (shown : List Traced) (are : each_traced node facts traces ≡ Ok shown) where
  abbrev IsKept : KeptRecord → Type 0
  IsKept kept = (is_plain_fact columns (kept_fact traces kept) ≡ true) × Holds n (kept_fact traces kept)

  is_kept : (kept : KeptRecord) → kept_refusal node facts columns kept.to (slice_get shown kept.trace) ≡ None → IsKept kept
  is_kept kept e =
      let is = is_shown node facts columns kept.to (slice_get shown kept.trace) e in
      let from = from_is node facts traces shown are kept.trace is.trace is.at in (
        is_plain_kept node facts columns traces shown are kept e,
        λ p q k l a. each_same n p q k l facts sides is.trace.has (map member_of kept.to)
            (at_number (IsTrue n) shown kept.trace is.trace (each_true n facts sides hold node traces shown are) is.at p q k l (subst (λ X. AllByRecursion (Same n p q) (columns_named X)) from a))
            is.reached,
      )

  both : (keep : List KeptRecord) → AllByRecursion IsKept keep → ArePlain columns (map (kept_fact traces) keep) × AllByRecursion (Holds n) (map (kept_fact traces) keep)
  both [] a = (tt, tt)
  both (kept ∷ keep) a = let rest = both keep a.1 in ((a.0.0, rest.0), (a.0.1, rest.1))

  -- what is kept holds, in the positions and so in the rows
  pub keeps : (keep : List KeptRecord) → keep_refusal (evidence node facts columns traces shown are) columns keep ≡ None → AreKept columns (map (kept_fact traces) keep) n.rows × AllByRecursion (Holds n) (map (kept_fact traces) keep)
  keeps keep e =
      let is = both keep (each_passed (λ (kept : KeptRecord). kept_refusal node facts columns kept.to (slice_get shown kept.trace)) IsKept is_kept keep e) in
      (record { named = is.0; hold = unpaired_hold n columns (map (kept_fact traces) keep) is.0 is.1 }, is.1)
