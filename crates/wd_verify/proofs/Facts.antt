-- Kept facts that the code makes one after another.
use Rattle.std.proofs.Common.{◌≡◌, ℕ, suc, ◌+◌, ◌<◌, arith, drop, get_or, length, true, ◌||◌, map, nat_eq, slice_get, List, [], ◌∷◌, ◌++◌, ap, ◌∙◌, sym, subst}
use Rattle.std.proofs.Math.Seq.{drop-cons}
use Rattle.std.proofs.lemmas.List.{append_assoc, map-append}
use Rattle.std.specs.List.{list_all}
use Rattle.wd_certificate.specs.Certificates.{TraceRecord, kept_of}
use Rattle.wd_certificate.specs.declared.certificate.Kept.{Kept}
use Rattle.wd_step_facts.specs.Facts.{Fact, is_plain_fact}
use Rattle.wd_facts.specs.Laws.{ArePlain}
use Rattle.wd_rules.specs.Rules.{is_target, kept_fact, trace_or}
use Rattle.wd_node_facts.specs.Seen.{columns_or_none, fact_by}
use Rattle.wd_node_facts.specs.declared.facts.KeptFact.{KeptFact}
use Rattle.wd_verify.specs.Lean.{lean_kept}
use Rattle.wd_verify.specs.Named.{is_of_kept}
use Rattle.wd_verify.specs.Shown.{IsKeptFact}
use Rattle.wd_verify.proofs.Claims.{fact_is, plain_to}
use Rattle.wd_verify.proofs.NamedTraces.{or_first, or_later, same_number}

module _ (columns : ℕ) (traces : List TraceRecord) (given : List (List ℕ)) (all : List Kept) where
  abbrev facts_of : List Kept → List Fact
  facts_of keep = map (kept_fact traces) (map lean_kept (map kept_of keep))

  -- the facts that were made, before those that are left; these are plain, and the columns of their traces are there
  pub record AreMade (rest : List Kept) (made : List KeptFact) : Type 0 where
    pub plain : ArePlain columns (facts_of rest)
    pub own : (n : ℕ) → is_of_kept (map lean_kept (map kept_of rest)) n ≡ true → (trace_or (slice_get traces n)).from ≡ columns_or_none (slice_get given n)
    pub facts : map (fact_by given) made ++ facts_of rest ≡ facts_of all

  module _ (i : ℕ) (item : Kept) (made : List KeptFact) (h : i < length all) (is : item ≡ get_or all i item) (before : AreMade (drop i all) made) where
    parts : drop i all ≡ item ∷ drop (i + 1) all
    parts = let next : suc i ≡ i + 1 = omega arith in drop-cons all i item h ∙ (λ j. sym is j ∷ drop (next j) all)

    plain_parts : (is_plain_fact columns (kept_fact traces (lean_kept (kept_of item))) ≡ true) × ArePlain columns (facts_of (drop (i + 1) all))
    plain_parts = subst (λ xs. ArePlain columns (facts_of xs)) parts before.plain

    pub targets_next : list_all (is_target columns) (kept_of item).to ≡ true
    targets_next = plain_to columns traces (kept_of item) plain_parts.0

    own_first : (n : ℕ) → (nat_eq n item.trace || is_of_kept (map lean_kept (map kept_of (drop (i + 1) all))) n) ≡ true → (trace_or (slice_get traces n)).from ≡ columns_or_none (slice_get given n)
    own_first = subst (λ xs. (n : ℕ) → is_of_kept (map lean_kept (map kept_of xs)) n ≡ true → (trace_or (slice_get traces n)).from ≡ columns_or_none (slice_get given n)) parts before.own

    pub made_next : (fact : KeptFact) (new : List KeptFact) → IsKeptFact (kept_of item) fact → new ≡ made ++ fact ∷ [] → AreMade (drop (i + 1) all) new
    made_next fact new kept appended =
        let rest = facts_of (drop (i + 1) all) in
        let from = own_first item.trace (or_first (nat_eq item.trace item.trace) (is_of_kept (map lean_kept (map kept_of (drop (i + 1) all))) item.trace) (same_number item.trace)) in
        record {
          plain = plain_parts.1;
          own = λ n e. own_first n (or_later (nat_eq n item.trace) (is_of_kept (map lean_kept (map kept_of (drop (i + 1) all))) n) e);
          facts =
              (λ j. (ap (map (fact_by given)) appended ∙ map-append (fact_by given) made (fact ∷ [])) j ++ rest)
              ∙ append_assoc (map (fact_by given) made) (fact_by given fact ∷ []) rest
              ∙ (λ j. map (fact_by given) made ++ fact_is traces given (kept_of item) fact from kept j ∷ rest)
              ∙ (λ j. map (fact_by given) made ++ facts_of (sym parts j))
              ∙ before.facts;
        }
