-- The steps up to values in their order are ranks.
use Rattle.std.proofs.Common.{◌≡◌, ◌∙◌, ℕ, zero, suc, ◌+◌, ◌-◌, ◌<◌, ◌≤◌, ◌⊎◌, inl, inr, Bool, true, false, cond, List, map, set, get_or, length, refl, sym, ap, subst, arith, Ordering, Less, Equal, Greater, IsPermutation, ◌≢◌, length-set}
use Rattle.std.specs.Prelude.{IsSorted}
use Rattle.std.specs.Ordering.{is_lt, nat_cmp, ordering_reverse}
use Rattle.std.specs.Cmp.{nat_cmp_is}
use Rattle.std.proofs.lemmas.Cmp.{alike_right, nat_cmp_total, ranked, tied_itself}
use Rattle.std.proofs.lemmas.Grind.{get_or-set_at}
use Rattle.std.proofs.lemmas.List.{get_or-map, get_or-set_other, length-map}
use Rattle.std.proofs.lemmas.List.Sorted.{All-permutation, Contains-permutation, IsPermutation-map, length_permutation}
use denote.Ref.{Bor}
use Rattle.wd_value.proofs.OrderLaws.{compare_total}
use Rattle.wd_value.specs.Order.{compare}
use Rattle.wd_value.specs.declared.order.SortKey.{SortKey}
use Rattle.wd_value.specs.declared.value.Value.{Value}
use Rattle.wd_value.specs.declared.value.Value.TheVariants.{Null}
use Rattle.wd_sort.specs.declared.ranks.Entry.{Entry}
use Rattle.wd_sort.specs.Ranks.{AreRanks, AreSortedEntries, IsEntry, compare_entries, step_to, steps_before, value_in}
use Rattle.wd_sort.proofs.Rewriting.{before_or_at}

-- ---- the law

module _ (key : SortKey) (values : List Value) where
  abbrev at : ℕ → Value
  at k = get_or values k Null

  -- the steps up to a value
  abbrev rank : ℕ → ℕ
  rank k = steps_before key values (suc k)

  abbrev ByNeighbours : Type 0
  ByNeighbours = (k : ℕ) → k + 1 < length values → is_lt (compare key (at (suc k)) (at k)) ≡ false

  step_low : (b : Bool) → cond {A = ℕ} b 1 0 ≤ 1
  step_low true = omega arith
  step_low false = omega arith

  pub rank_low : (k : ℕ) → rank k ≤ k
  rank_low zero = omega arith
  rank_low (suc k) = let h = rank_low k in let s : step_to key values (suc k) ≤ 1 = step_low (is_lt (compare key (at k) (at (suc k)))) in omega arith

  rank_rises : (i d : ℕ) → rank i ≤ rank (i + d)
  rank_rises i zero = let e : i ≡ i + 0 = omega arith in subst (λ j. rank i ≤ rank j) e (omega arith)
  rank_rises i (suc d) = let h = rank_rises i d in let next : i + suc d ≡ suc (i + d) = omega arith in let e : rank (i + suc d) ≡ rank (i + d) + step_to key values (suc (i + d)) = ap rank next in omega arith

  -- one value further
  further : (i j : ℕ) (o p : Ordering) → compare key (at i) (at j) ≡ o → compare key (at j) (at (suc j)) ≡ p → is_lt (compare key (at (suc j)) (at j)) ≡ false → rank i ≤ rank j
      → nat_cmp (rank i) (rank j) ≡ o → nat_cmp (rank i) (rank (suc j)) ≡ compare key (at i) (at (suc j))
  further i j Less Less e f g low h =
      let r : rank i < rank j = ranked (rank i) (rank j) Less (sym h) in
      let up : rank (suc j) ≡ rank j + 1 = (λ t. rank j + cond {A = ℕ} (is_lt (f t)) 1 0) in
      sym (nat_cmp_is (rank i) (rank (suc j)) Less (omega arith)) ∙ sym ((compare_total key).trans (at i) (at j) (at (suc j)) e f)
  further i j Equal Less e f g low h =
      let r : rank i ≡ rank j = ranked (rank i) (rank j) Equal (sym h) in
      let up : rank (suc j) ≡ rank j + 1 = (λ t. rank j + cond {A = ℕ} (is_lt (f t)) 1 0) in
      sym (nat_cmp_is (rank i) (rank (suc j)) Less (omega arith)) ∙ sym ((compare_total key).congr (at i) (at j) (at (suc j)) e ∙ f)
  further i j Greater Less e f g low h = absurd (let r : rank j < rank i = ranked (rank i) (rank j) Greater (sym h) in omega arith)
  further i j o Equal e f g low h =
      let up : rank (suc j) ≡ rank j + 0 = (λ t. rank j + cond {A = ℕ} (is_lt (f t)) 1 0) in
      let same : rank (suc j) ≡ rank j = omega arith in
      ap (λ n. nat_cmp (rank i) n) same ∙ h ∙ sym e ∙ alike_right (compare_total key) (at j) (at (suc j)) (at i) f
  further i j o Greater e f g low h = absurd (let k : is_lt (compare key (at (suc j)) (at j)) ≡ true = ap is_lt ((compare_total key).antisymm (at (suc j)) (at j) ∙ ap ordering_reverse f) in cc)

  module _ (sorted : ByNeighbours) where
    upwards : (i d : ℕ) → i + d < length values → nat_cmp (rank i) (rank (i + d)) ≡ compare key (at i) (at (i + d))
    upwards i zero low =
        let none : i + 0 ≡ i = omega arith in
        ap (λ j. nat_cmp (rank i) (rank j)) none ∙ sym (nat_cmp_is (rank i) (rank i) Equal refl) ∙ sym (tied_itself (compare_total key) (at i)) ∙ ap (λ j. compare key (at i) (at j)) (sym none)
    upwards i (suc d) low =
        let next : suc (i + d) ≡ i + suc d = omega arith in
        subst (λ j. nat_cmp (rank i) (rank j) ≡ compare key (at i) (at j)) next
        (further i (i + d) (compare key (at i) (at (i + d))) (compare key (at (i + d)) (at (suc (i + d)))) refl refl (sorted (i + d) (omega arith)) (rank_rises i d) (upwards i d (omega arith)))

    either_way : (i j : ℕ) → (i ≤ j) ⊎ (j ≤ i) → i < length values → j < length values → nat_cmp (rank i) (rank j) ≡ compare key (at i) (at j)
    either_way i j (inl le) low high =
        let there : i + (j - i) ≡ j = omega arith in
        subst (λ k. nat_cmp (rank i) (rank k) ≡ compare key (at i) (at k)) there (upwards i (j - i) (omega arith))
    either_way i j (inr le) low high =
        let there : j + (i - j) ≡ i = omega arith in
        nat_cmp_total.antisymm (rank i) (rank j)
        ∙ ap ordering_reverse (subst (λ k. nat_cmp (rank j) (rank k) ≡ compare key (at j) (at k)) there (upwards j (i - j) (omega arith)))
        ∙ sym ((compare_total key).antisymm (at i) (at j))

    pub ranks_compare : (i j : ℕ) → i < length values → j < length values → nat_cmp (rank i) (rank j) ≡ compare key (at i) (at j)
    ranks_compare i j low high = either_way i j (dec i j) low high
      where
        dec : (i j : ℕ) → (i ≤ j) ⊎ (j ≤ i)
        dec i j = grind (arith)

-- ---- the entries

pub none : Entry
none = record { value = record { ref_ptr = (0, 0); now = Null }; place = 0 }

-- the place of an entry, and its rank
abbrev pub place_in : List Entry → ℕ → ℕ
place_in entries k = (get_or entries k none).place

abbrev pub rank_in : SortKey → List Entry → ℕ → ℕ
rank_in key entries k = steps_before key (map (λ (e : Entry). e.value.now) entries) (k + 1)

-- the ranks of the first entries are written
pub record AreWritten (key : SortKey) (values : List (Bor Value)) (entries : List Entry) (i : ℕ) (ranks : List ℕ) : Type 0 where
  pub long : length ranks ≡ length values
  pub each : (k : ℕ) → k < i → get_or ranks (place_in entries k) 0 ≡ rank_in key entries k

pub sorted_entries : (key : SortKey) (values : List (Bor Value)) (entries sorted : List Entry) → length entries ≡ length values
    → ((k : ℕ) (d : Entry) → k < length entries → (get_or entries k d).place ≡ k) → ((k : ℕ) (d : Entry) → k < length entries → (get_or entries k d).value.now ≡ value_in values k)
    → IsPermutation entries sorted → IsSorted (compare_entries key) sorted → AreSortedEntries key values sorted
sorted_entries key values entries sorted long places are moved up = record {
  long = length_permutation entries sorted moved ∙ long;
  each = All-permutation (IsEntry values) entries sorted moved (λ k d low. record { within = rw (places k d low) (rw (← long) low); is = are k d low ∙ ap (value_in values) (sym (places k d low)) });
  all = λ p low. (
      let low' : p < length entries = rw long low in
      Contains-permutation (map (λ (e : Entry). e.place) entries) (map (λ (e : Entry). e.place) sorted) p (IsPermutation-map (λ (e : Entry). e.place) entries sorted moved)
      (p, rw (length-map entries (λ (e : Entry). e.place)) low', get_or-map (λ (e : Entry). e.place) entries p none p low' ∙ places p none low')
      );
  sorted = up;
}

module _ (key : SortKey) (values : List (Bor Value)) (entries : List Entry) (are : AreSortedEntries key values entries) where
  abbrev sorted_values : List Value
  sorted_values = map (λ (e : Entry). e.value.now) entries

  abbrev place_at : ℕ → ℕ
  place_at k = place_in entries k

  abbrev rank_at : ℕ → ℕ
  rank_at k = rank_in key entries k

  rank_is : (k : ℕ) → rank key sorted_values k ≡ rank_at k
  rank_is k = let e : suc k ≡ k + 1 = omega arith in ap (steps_before key sorted_values) e

  values_long : length sorted_values ≡ length entries
  values_long = length-map entries (λ (e : Entry). e.value.now)

  value_is : (k : ℕ) → k < length entries → get_or sorted_values k Null ≡ value_in values (place_at k)
  value_is k low = get_or-map (λ (e : Entry). e.value.now) entries k none Null low ∙ (are.each k none low).is

  neighbours : ByNeighbours key sorted_values
  neighbours k high =
      let high' : k + 1 < length entries = rw (← values_long) high in
      let here = get_or-map (λ (e : Entry). e.value.now) entries k none Null (omega arith) in
      let next = get_or-map (λ (e : Entry). e.value.now) entries (k + 1) none Null high' in
      let at : suc k ≡ k + 1 = omega arith in
      ap (λ j. is_lt (compare key (get_or sorted_values j Null) (get_or sorted_values k Null))) at
      ∙ (λ t. is_lt (compare key (next t) (here t))) ∙ are.sorted k none (omega arith) high'

  entries_compare : (i j : ℕ) → i < length entries → j < length entries → nat_cmp (rank_at i) (rank_at j) ≡ compare key (value_in values (place_at i)) (value_in values (place_at j))
  entries_compare i j low high =
      sym (λ t. nat_cmp (rank_is i t) (rank_is j t))
      ∙ ranks_compare key sorted_values neighbours i j (rw values_long low) (rw values_long high)
      ∙ (λ t. compare key (value_is i low t) (value_is j high t))

  -- entries of one place have one rank
  one_rank : (i j : ℕ) → i < length entries → j < length entries → place_at i ≡ place_at j → rank_at i ≡ rank_at j
  one_rank i j low high e =
      ranked (rank_at i) (rank_at j) Equal (sym (entries_compare i j low high ∙ ap (λ p. compare key (value_in values (place_at i)) (value_in values p)) (sym e) ∙ tied_itself (compare_total key) (value_in values (place_at i))))

  pub AreWritten-more : (i v : ℕ) (ranks : List ℕ) → i < length entries → v ≡ rank_at i → AreWritten key values entries i ranks → AreWritten key values entries (i + 1) (set ranks (place_at i) v)
  AreWritten-more i v ranks low is w = record {
    long = (let e : length (set ranks (place_at i) v) ≡ length ranks = length-set ranks (place_at i) v in e ∙ w.long);
    each = λ k l. by_case k (before_or_at k i l);
  }
    where
      within : place_at i < length ranks
      within = rw w.long (are.each i none low).within

      decide : (k : ℕ) → (place_at k ≡ place_at i) ⊎ (place_at k ≢ place_at i)
      decide k = grind (arith)

      overwritten : (k : ℕ) → k < i → (place_at k ≡ place_at i) ⊎ (place_at k ≢ place_at i) → get_or (set ranks (place_at i) v) (place_at k) 0 ≡ rank_at k
      overwritten k l (inl e) = get_or-set_at ranks (place_at i) (place_at k) v 0 e within ∙ is ∙ one_rank i k low (omega arith) (sym e)
      overwritten k l (inr n) = get_or-set_other ranks (place_at i) (place_at k) v 0 n ∙ w.each k l

      by_case : (k : ℕ) → (k < i) ⊎ (k ≡ i) → get_or (set ranks (place_at i) v) (place_at k) 0 ≡ rank_at k
      by_case k (inl l) = overwritten k l (decide k)
      by_case k (inr e) = subst (λ j. get_or (set ranks (place_at i) v) (place_at j) 0 ≡ rank_at j) (sym e) (get_or-set_at ranks (place_at i) (place_at i) v 0 refl within ∙ is)

  record IsRank (p n : ℕ) : Type 0 where
    entry : ℕ
    low : entry < length entries
    place : place_at entry ≡ p
    is : n ≡ rank_at entry

  rank_of : (ranks : List ℕ) → AreWritten key values entries (length entries) ranks → (p : ℕ) → p < length values → IsRank p (get_or ranks p 0)
  rank_of ranks w p low =
      let c = are.all p low in
      let low' : c.0 < length entries = rw (← length-map entries (λ (e : Entry). e.place)) c.1 in
      let place : place_at c.0 ≡ p = sym (get_or-map (λ (e : Entry). e.place) entries c.0 none p low') ∙ c.2 in
      record { entry = c.0; low = low'; place = place; is = ap (λ q. get_or ranks q 0) (sym place) ∙ w.each c.0 low' }

  pub AreRanks-from_written : (ranks : List ℕ) → AreWritten key values entries (length entries) ranks → AreRanks key values ranks
  AreRanks-from_written ranks w = record {
    long = w.long;
    below = λ p low. (
        let r = rank_of ranks w p low in
        let n : rank key sorted_values r.entry ≤ r.entry = rank_low key sorted_values r.entry in
        let f = rank_is r.entry in
        let l = are.long in
        let e = r.is in
        let m = r.low in
        omega arith
        );
    alike = λ p q low high. (
        let r = rank_of ranks w p low in
        let s = rank_of ranks w q high in
        (λ t. nat_cmp (r.is t) (s.is t)) ∙ entries_compare r.entry s.entry r.low s.low ∙ (λ t. compare key (value_in values (r.place t)) (value_in values (s.place t)))
        );
  }
