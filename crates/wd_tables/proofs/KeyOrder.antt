-- In the order of a key, rows that are the same on it stand side by side.
use Rattle.std.proofs.Common.{◌≡◌, ◌≢◌, ◌∙◌, ℕ, zero, suc, ◌+◌, ◌-◌, ◌<◌, ◌≤◌, ◌&&◌, Bool, true, false, cond, not, List, [], ◌∷◌, get_or, length, refl, sym, arith, add-one, inl, inr, Ordering, Less, Equal, Greater}
use Rattle.std.specs.Prelude.{Contains, nat_eq, nat_lt}
use Rattle.std.specs.List.{list_any, range_with_len}
use Rattle.std.specs.Ordering.{is_lt, nat_cmp, ordering_reverse, ordering_then}
use Rattle.std.proofs.lemmas.Bool.{and_parts, cases_lt, eqb-true, eq-eqb, false≢true, ne_eqb, ltb-false}
use Rattle.std.proofs.lemmas.Cmp.{tied_itself}
use Rattle.std.proofs.lemmas.List.{get_or_default}
use Rattle.std.proofs.lemmas.List.FromFn.{get_or-range_with_len, length-range_with_len}
use Rattle.std.proofs.lemmas.List.Sorted.{Contains-permutation, IsPermutation-sym, sorted_far, sum_by-IsPermutation}
use Rattle.wd_value.proofs.OrderLaws.{compare-exact, compare_total}
use Rattle.wd_value.proofs.Perms.{count_by-cons, count_by-no, count_by-yes}
use Rattle.wd_value.proofs.SameLaws.{same_row-Decides}
use Rattle.wd_value.specs.Bags.{positions, times}
use Rattle.wd_value.specs.Order.{compare}
use Rattle.wd_value.specs.declared.order.SortColumn.{SortColumn}
use Rattle.wd_value.specs.Rows.{Row, column_of, columns_of, row_at, same_row}
use Rattle.wd_schema.specs.Meets.{is_null, violates}
use Rattle.wd_schema.specs.Tables.{KeyRule}
use Rattle.wd_tables.specs.Causes.{RepeatsIn}
use Rattle.wd_sort.specs.Sorting.{IsSortOf, compare_positions, compare_rows_at}
use Rattle.wd_value.proofs.KeyLaws.{compare_keys_total}
use Rattle.wd_value.specs.Keys.{compare_keys}
use Rattle.wd_sort.proofs.Order.{IsSortOf-from_stable, positions_order}
use Rattle.wd_tables.specs.Keys.{AreInOrder, ViolatesBefore, ascending, sort_columns}

-- ---- the order of rows by columns

then_equal : (o p : Ordering) → ordering_then o p ≡ Equal → (o ≡ Equal) × (p ≡ Equal)
then_equal Less p e = absurd (cc e)
then_equal Equal p e = (refl, e)
then_equal Greater p e = absurd (cc e)

-- rows that tie are the same on the columns
compare_columns-exact : (columns : List ℕ) (a b : Row) → compare_keys (sort_columns columns) a b ≡ Equal → columns_of columns a ≡ columns_of columns b
compare_columns-exact [] a b e = refl
compare_columns-exact (column ∷ columns) a b e =
    let parts = then_equal (compare ascending (column_of a column) (column_of b column)) (compare_keys (sort_columns columns) a b) e in
    let head : column_of a column ≡ column_of b column = compare-exact ascending _ _ parts.0 in
    let tail : columns_of columns a ≡ columns_of columns b = compare_columns-exact columns a b parts.1 in
    λ i. head i ∷ tail i

-- and the other way round
compare_columns-tie : (columns : List ℕ) (a b : Row) → columns_of columns a ≡ columns_of columns b → compare_keys (sort_columns columns) a b ≡ Equal
compare_columns-tie [] a b e = refl
compare_columns-tie (column ∷ columns) a b e =
    let head : column_of a column ≡ column_of b column = cc in
    let tail : columns_of columns a ≡ columns_of columns b = cc in
    rw (head, tied_itself (compare_total ascending) (column_of b column)) (compare_columns-tie columns a b tail)

not_less : (o p : Ordering) → is_lt (ordering_then o p) ≡ false → o ≢ Less
not_less o p h e = absurd (false≢true (sym (rw e at h)))

tie_from : (o p : Ordering) → o ≡ ordering_reverse p → o ≢ Less → p ≢ Less → o ≡ Equal
tie_from Less p e f g = absurd (f refl)
tie_from Equal p e f g = refl
tie_from Greater Less e f g = absurd (g refl)
tie_from Greater Equal e f g = e
tie_from Greater Greater e f g = absurd (cc e)

below_by : (p q : ℕ) (b : Bool) → nat_lt p q ≡ b → is_lt (nat_cmp p q) ≡ false → q ≤ p
below_by p q true e h = absurd (false≢true (sym (rw e at h)))
below_by p q false e h = ltb-false p q e

not_below : (p q : ℕ) → is_lt (nat_cmp p q) ≡ false → q ≤ p
not_below p q h = below_by p q (nat_lt p q) refl h

-- ---- each position stands once

below_range : (q a n : ℕ) → q < a → times nat_eq q (range_with_len a n) ≡ 0
below_range q a zero h = refl
below_range q a (suc n) h =
    let c = count_by-no (nat_eq q) a (range_with_len (a + 1) n) (ne_eqb q a (λ e. omega arith)) in
    let r = below_range q (a + 1) n (omega arith) in
    omega arith

range_step : (q a n : ℕ) (b : Bool) → nat_eq q a ≡ b → times nat_eq q (range_with_len (a + 1) n) ≤ 1 → times nat_eq q (range_with_len a (suc n)) ≤ 1
range_step q a n true e h =
    let c = count_by-yes (nat_eq q) a (range_with_len (a + 1) n) e in
    let same = eqb-true q a e in
    let r = below_range q (a + 1) n (omega arith) in
    omega arith
range_step q a n false e h =
    let c = count_by-no (nat_eq q) a (range_with_len (a + 1) n) e in
    omega arith

once_in_range : (q a n : ℕ) → times nat_eq q (range_with_len a n) ≤ 1
once_in_range q a zero = omega arith
once_in_range q a (suc n) = range_step q a n (nat_eq q a) refl (once_in_range q (a + 1) n)

twice : (q : ℕ) (xs : List ℕ) (i : ℕ) → suc i < length xs → get_or xs i 0 ≡ q → get_or xs (suc i) 0 ≡ q → 2 ≤ times nat_eq q xs
twice q [] i h a b = absurd (omega arith)
twice q (x ∷ []) zero h a b = absurd (omega arith)
twice q (x ∷ y ∷ xs) zero h a b =
    let first = count_by-yes (nat_eq q) x (y ∷ xs) (eq-eqb q x (sym a)) in
    let second = count_by-yes (nat_eq q) y xs (eq-eqb q y (sym b)) in
    omega arith
twice q (x ∷ xs) (suc i) h a b =
    let rest = twice q xs i (omega arith) a b in
    let c = count_by-cons (nat_eq q) x xs in
    omega arith

-- ---- what neighbours tell

module _ (key : KeyRule) (rows : List Row) (order : List ℕ) (s : IsSortOf (sort_columns key.columns) rows order) where
  abbrev lt : ℕ → ℕ → Bool
  lt p q = is_lt (compare_positions (sort_columns key.columns) rows p q)

  -- a position that stands in the order is one of the rows'
  is_position : (q : ℕ) → Contains order q → q < length rows
  is_position q h =
      let (k, within, is) = Contains-permutation order (positions (length rows)) q (IsPermutation-sym (positions (length rows)) order s.each_once) h in
      let below : k < length rows = rw (length-range_with_len 0 (length rows)) at within in
      let at = get_or-range_with_len 0 (length rows) k q below in
      omega arith

  -- each of the rows' positions stands in the order
  stands : (q : ℕ) → q < length rows → Contains order q
  stands q h = Contains-permutation (positions (length rows)) order q s.each_once
      (q, rw (length-range_with_len 0 (length rows)) h, get_or-range_with_len 0 (length rows) q q h ∙ omega arith)

  -- rows that violate the key are the same on its columns, and no NULL stands there where NULLs are distinct
  violates-parts : (a b : Row) → violates key a b ≡ true → (columns_of key.columns a ≡ columns_of key.columns b) × (not (key.nulls_distinct && list_any is_null (columns_of key.columns a)) ≡ true)
  violates-parts a b h =
      let parts = and_parts (same_row (columns_of key.columns a) (columns_of key.columns b)) (not (key.nulls_distinct && list_any is_null (columns_of key.columns a))) h in
      ((same_row-Decides (columns_of key.columns a) (columns_of key.columns b)).0 parts.0, parts.1)

  -- of rows that are the same on the columns the lesser position stands first
  by_position : (p q : ℕ) → columns_of key.columns (row_at rows p) ≡ columns_of key.columns (row_at rows q) → lt p q ≡ false → q ≤ p
  by_position p q same later =
      let tie = compare_columns-tie key.columns (row_at rows p) (row_at rows q) same in
      not_below p q (rw tie at later)

  -- a row right after one with which it violates the key repeats that one
  pub found_repeats : (q : ℕ) → ViolatesBefore key rows order q → RepeatsIn key rows q
  found_repeats q (i, within, is, bad) =
      let p = get_or order i 0 in
      let parts = violates-parts (row_at rows p) (row_at rows q) bad in
      let up : lt q p ≡ false = rw is at (s.sorted i 0 (omega arith) within) in
      let not_after : p ≤ q = by_position q p (sym parts.0) up in
      let once = once_in_range q 0 (length rows) in
      let as_often = sum_by-IsPermutation (λ x. cond (nat_eq q x) 1 0) (positions (length rows)) order s.each_once in
      let other : p ≢ q = λ e. (let two = twice q order i (omega arith) e (rw add-one at is) in absurd (omega arith)) in
      let before : p < q = omega arith in
      (is_position q (i + 1, within, get_or_default order (i + 1) q 0 within ∙ is), p, before, bad)

  -- a row that repeats an earlier one stands right after one with which it violates the key
  pub repeats_found : (q : ℕ) → RepeatsIn key rows q → ViolatesBefore key rows order q
  repeats_found q (below, p, before, bad) =
      let parts = violates-parts (row_at rows p) (row_at rows q) bad in
      let (j, j-within, j-at) = stands q below in
      let (i, i-within, i-at) = stands p (omega arith) in
      let j-is : get_or order j 0 ≡ q = get_or_default order j 0 q j-within ∙ j-at in
      let i-is : get_or order i 0 ≡ p = get_or_default order i 0 p i-within ∙ i-at in
      let far = sorted_far lt (positions_order (sort_columns key.columns) rows) order s.sorted in
      let in_turn : i < j = elim (cases_lt i j) [
        | inl less ↦ less
        | inr after ↦ let up : lt p q ≡ false = rw (i-is, j-is) at (far j i 0 after i-within) in let no = by_position p q parts.0 up in absurd (omega arith)
      ] in
      let k = j - 1 in
      let m = get_or order k 0 in
      let next : k + 1 ≡ j = omega arith in
      let from_p : lt m p ≡ false = rw i-is at (far i k 0 (omega arith) (omega arith)) in
      let to_q : lt q m ≡ false = rw j-is at (far k j 0 (omega arith) j-within) in
      let total = compare_keys_total (sort_columns key.columns) in
      let alike = total.congr (row_at rows q) (row_at rows p) (row_at rows m) (compare_columns-tie key.columns (row_at rows q) (row_at rows p) (sym parts.0)) in
      let tie = tie_from (compare_keys (sort_columns key.columns) (row_at rows p) (row_at rows m)) (compare_keys (sort_columns key.columns) (row_at rows m) (row_at rows p)) (total.antisymm (row_at rows p) (row_at rows m)) (λ e. not_less _ _ to_q (alike ∙ e)) (not_less _ _ from_p) in
      let same = compare_columns-exact key.columns (row_at rows p) (row_at rows m) tie in
      (k, rw next j-within, rw next j-is, rw same at bad)

-- ---- rows that stand in the order of columns

pub in_order : (columns : List SortColumn) (rows : List Row) → AreInOrder columns rows → IsSortOf columns rows (positions (length rows))
in_order columns rows h =
    let all = positions (length rows) in
    IsSortOf-from_stable columns rows all (record {
      rearranged = record { moves = []; below = tt; is = refl };
      sorted = λ k d low high. (
          let within : k + 1 < length rows = rw (length-range_with_len 0 (length rows)) at high in
          let this = get_or-range_with_len 0 (length rows) k d (omega arith) in
          let next = get_or-range_with_len 0 (length rows) (k + 1) d within in
          let p : get_or all k d ≡ k = omega arith in
          let q : get_or all (k + 1) d ≡ k + 1 = omega arith in
          (λ i. is_lt (compare_rows_at columns rows (q i) (p i))) ∙ h k within);
      stable = λ x. refl;
    })
