-- A walk over the left rows in the order of the columns, one row on and at the end.
use Rattle.std.proofs.Common.{◌≡◌, ◌≢◌, ℕ, ◌+◌, ◌<◌, ◌≤◌, true, false, List, length, get_or, set, refl, sym, ap, subst, ◌∙◌, arith, inl, inr, Ordering, Less, Equal, Greater}
use Rattle.std.specs.Ordering.{is_lt, ordering_reverse}
use Rattle.std.proofs.lemmas.Bool.{cases_eq, cases_lt, false≢true}
use Rattle.std.proofs.lemmas.Cmp.{alike_right}
use Rattle.std.proofs.lemmas.List.{get_or-set_other, get_or-set_same, get_or_default, length-set}
use Rattle.std.proofs.lemmas.List.FromFn.{get_or-range_with_len, length-range_with_len}
use Rattle.std.proofs.lemmas.List.Sorted.{Contains-permutation, ranks_by, sorted_far}
use Rattle.wd_value.specs.Bags.{positions}
use Rattle.wd_value.specs.Rows.{Row, row_at}
use Rattle.wd_join.specs.declared.matching.JoinColumns.{JoinColumns}
use Rattle.wd_join.specs.declared.walk.RowRange.{RowRange}
use Rattle.wd_steps.specs.Repeats.{compare_rows}
use Rattle.wd_join.specs.Matching.{AreAgreeingRanges, IsKnown, IsSortedBy, IsAgreeingRange, is_before, left_keys}
use Rattle.wd_join.proofs.Holding.{keys_are-left, left_key, right_key, sides_are}
use Rattle.wd_steps.proofs.Occurrences.{compare_rows_total}

less_is : (o : Ordering) → is_before false o ≡ true → o ≡ Less
less_is Less h = refl
less_is Equal h = absurd (false≢true h)
less_is Greater h = absurd (false≢true h)

-- what is below a list of values is below one that does not stand before that
below_up : (x y z : Row) → compare_rows x y ≡ Less → is_lt (compare_rows z y) ≡ false → compare_rows x z ≡ Less
below_up x y z less up = by (compare_rows z y) refl
  where
    by : (o : Ordering) → compare_rows z y ≡ o → compare_rows x z ≡ Less
    by Less e = absurd (false≢true (sym up ∙ ap is_lt e))
    by Equal e = alike_right compare_rows_total z y x e ∙ less
    by Greater e = compare_rows_total.trans x y z less (compare_rows_total.antisymm y z ∙ ap ordering_reverse e)

-- what is below a list of values or ties with it is so with one that does not stand before that
upto_up : (x y z : Row) → is_before true (compare_rows x y) ≡ true → is_lt (compare_rows z y) ≡ false → is_before true (compare_rows x z) ≡ true
upto_up x y z upto up = by (compare_rows x y) refl upto
  where
    turned : (o : Ordering) → is_lt o ≡ false → is_before true (ordering_reverse o) ≡ true
    turned Less e = absurd (false≢true (sym e))
    turned Equal e = refl
    turned Greater e = refl

    by : (o : Ordering) → compare_rows x y ≡ o → is_before true o ≡ true → is_before true (compare_rows x z) ≡ true
    by Less e h = ap (is_before true) (below_up x y z e up)
    by Equal e h = ap (is_before true) (compare_rows_total.antisymm x z) ∙ ap (λ o. is_before true (ordering_reverse o)) (alike_right compare_rows_total x y z e) ∙ turned (compare_rows z y) up
    by Greater e h = absurd (false≢true h)

module _ (columns : List JoinColumns) (left right : List Row) (left_order order : List ℕ) where
  abbrev row : ℕ → Row
  row k = row_at left (get_or left_order k 0)

  -- the ranges of the first rows of the left order are there, and a range is known for all later left rows
  pub record AreWalked (i : ℕ) (known : RowRange) (ranges : List RowRange) : Type 0 where
    pub long : length ranges ≡ length left
    pub within : (known.start ≤ length order) × (known.end ≤ length order)
    pub before : (j : ℕ) → i ≤ j → j < length left_order → IsKnown columns (row j) right order known
    pub done : (k : ℕ) (d : RowRange) → k < i → get_or left_order k 0 < length left → IsAgreeingRange columns (row k) right order (get_or ranges (get_or left_order k 0) d)

  pub AreWalked-none : (ranges : List RowRange) → length ranges ≡ length left → AreWalked 0 (record { start = 0; end = 0 }) ranges
  AreWalked-none ranges long = record {
    long = long;
    within = (omega arith, omega arith);
    before = λ j low high. record { before = λ k h. absurd (omega arith); reached = λ k h. absurd (omega arith) };
    done = λ k d h within. absurd (omega arith);
  }

  abbrev key : ℕ → Row
  key p = left_key columns (row_at left p)

  no_lower : IsSortedBy (left_keys columns) left left_order → (i j : ℕ) → i ≤ j → j < length left_order → is_lt (compare_rows (key (get_or left_order j 0)) (key (get_or left_order i 0))) ≡ false
  no_lower sorted i j le within =
      sorted_far (λ p q. is_lt (compare_rows (key p) (key q))) (ranks_by compare_rows_total key) left_order
      (λ k d low high. sym (ap is_lt (keys_are-left columns (row_at left (get_or left_order (k + 1) d)) (row_at left (get_or left_order k d)))) ∙ sorted.sorted k d low high)
      i j 0 le within

  pub AreWalked-more : IsSortedBy (left_keys columns) left left_order → (i : ℕ) (known : RowRange) (ranges next : List RowRange) (s : RowRange) → i < length left_order → AreWalked i known ranges
      → IsAgreeingRange columns (row i) right order s → IsKnown columns (row i) right order s → next ≡ set ranges (get_or left_order i 0) s → AreWalked (i + 1) s next
  AreWalked-more sorted i known ranges next s within so_far is before put =
      let p = get_or left_order i 0 in
      record {
        long = ap length put ∙ length-set ranges p s ∙ so_far.long;
        within = (let a = is.forwards in let b = is.within in (omega arith, omega arith));
        before = λ j low high. (
            let up = no_lower sorted i j (omega arith) high in
            record {
              before = λ k h. (
                  let r = row_at right (get_or order k 0) in
                  let here : compare_rows (right_key columns r) (key p) ≡ Less = sym (sides_are columns (row i) r) ∙ less_is _ (before.before k h) in
                  ap (is_before false) (sides_are columns (row j) r ∙ below_up (right_key columns r) (key p) (key (get_or left_order j 0)) here up));
              reached = λ k h. (
                  let r = row_at right (get_or order k 0) in
                  let here : is_before true (compare_rows (right_key columns r) (key p)) ≡ true = ap (is_before true) (sym (sides_are columns (row i) r)) ∙ before.reached k h in
                  ap (is_before true) (sides_are columns (row j) r) ∙ upto_up (right_key columns r) (key p) (key (get_or left_order j 0)) here up);
            });
        done = λ k d h low. elim (cases_eq (get_or left_order k 0) p) [
          | inl same ↦ (
              let p-within : p < length ranges = omega (arith, so_far.long, low, same) in
              let at : get_or next (get_or left_order k 0) d ≡ s = (λ n. get_or (put n) (same n) d) ∙ get_or-set_same ranges p s d p-within in
              subst (IsAgreeingRange columns (row k) right order) (sym at) (subst (λ q. IsAgreeingRange columns (row_at left q) right order s) (sym same) is))
          | inr other ↦ (
              let earlier : k < i = elim (cases_eq k i) [
                | inl same ↦ absurd (other (ap (λ n. get_or left_order n 0) same))
                | inr differs ↦ below_if k i h differs
              ] in
              let at : get_or next (get_or left_order k 0) d ≡ get_or ranges (get_or left_order k 0) d = ap (λ l. get_or l (get_or left_order k 0) d) put ∙ get_or-set_other ranges p (get_or left_order k 0) s d other in
              subst (IsAgreeingRange columns (row k) right order) (sym at) (so_far.done k d earlier low))
        ];
      }
    where
      below_if : (k i : ℕ) → k < i + 1 → k ≢ i → k < i
      below_if k i h differs = elim (cases_lt k i) [
        | inl less ↦ less
        | inr more ↦ absurd (differs (omega arith))
      ]

  pub AreWalked-all : IsSortedBy (left_keys columns) left left_order → (i : ℕ) (known : RowRange) (ranges : List RowRange) → length left_order ≤ i → AreWalked i known ranges → AreAgreeingRanges columns left right order ranges
  AreWalked-all sorted i known ranges all walked = record {
    long = walked.long;
    each = λ n d h. (
        let there = Contains-permutation (positions (length left)) left_order n sorted.rearranged
        (n, rw (length-range_with_len 0 (length left)) h, get_or-range_with_len 0 (length left) n n h ∙ omega arith) in
        let k = there.0 in
        let at : get_or left_order k 0 ≡ n = get_or_default left_order k 0 n there.1 ∙ there.2 in
        subst (λ p. IsAgreeingRange columns (row_at left p) right order (get_or ranges p d)) at (walked.done k d (omega (arith, there.1)) (omega (arith, at))));
  }
