-- One place more.
use Rattle.std.proofs.Common.{◌≡◌, ◌≢◌, ℕ, ◌+◌, ◌<◌, List, get_or, length, sym, ◌∙◌, ap, subst, arith, ◌⊎◌, inl, inr, get_or-set_other, get_or-set_same}
use Rattle.std.proofs.Math.ListN.{set, length-set}
use Rattle.std.proofs.Common.{◌≤◌}
use Rattle.std.proofs.lemmas.Bool.{cases_lt}
use Rattle.wd_value.specs.Bags.{EachOnce}
use Rattle.wd_partition.specs.Places.{ArePlaces}
use Rattle.wd_partition.specs.declared.places.Place.{Place}
use Rattle.wd_partition.proofs.Marks.{below_once, own_place}
use Rattle.wd_plan.specs.Partitions.{place_in}

module _ (list starts ends : List ℕ) (i : ℕ) (places : List Place) (once : EachOnce (length list) list) (within : i < length list) (are : ArePlaces list starts ends i places) where
  abbrev the_place : ℕ → Place
  the_place k = record { start = get_or starts k 0; end = get_or ends k 0; index = k }

  low : get_or list i 0 < length places
  low = subst (λ n. get_or list i 0 < n) (sym are.long) (below_once (length list) list i once within)

  at : (k : ℕ) (d : Place) → (k ≡ i) ⊎ (k < i) → get_or (set places (get_or list i 0) (the_place i)) (get_or list k 0) d ≡ the_place k
  at k d (inl e) =
      let long = low in
      subst (λ j. get_or (set places (get_or list i 0) (the_place i)) (get_or list j 0) d ≡ the_place j) (sym e) (get_or-set_same places (get_or list i 0) (the_place i) d long)
  at k d (inr l) =
      let ne : get_or list k 0 ≢ get_or list i 0 = λ e. (let one : place_in list (get_or list k 0) ≡ k = own_place (length list) list k once (omega arith) in let two : place_in list (get_or list i 0) ≡ i = own_place (length list) list i once within in let same : place_in list (get_or list k 0) ≡ place_in list (get_or list i 0) = ap (place_in list) e in omega arith) in
      let other : get_or (set places (get_or list i 0) (the_place i)) (get_or list k 0) d ≡ get_or places (get_or list k 0) d = rw get_or-set_other in
      other ∙ are.each k d l

  below_or : (k : ℕ) → k < i + 1 → (k ≡ i) ⊎ (k < i)
  below_or k l = by (cases_lt k i)
    where
      by : (k < i) ⊎ (i ≤ k) → (k ≡ i) ⊎ (k < i)
      by (inl a) = inr a
      by (inr a) = inl (omega arith)

  pub ArePlaces-more : ArePlaces list starts ends (i + 1) (set places (get_or list i 0) (the_place i))
  ArePlaces-more = record {
    long = length-set places (get_or list i 0) (the_place i) ∙ are.long;
    each = λ k d l. at k d (below_or k l);
  }
