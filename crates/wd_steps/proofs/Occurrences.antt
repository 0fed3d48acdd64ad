-- Rows that are the same stand side by side in the order of their values; first occurrences, one row on.
use Rattle.std.specs.List.{range_with_len}
use Rattle.std.proofs.Common.{All, map, ◌≡◌, ◌≢◌, ◌∙◌, ℕ, zero, suc, ◌+◌, ◌-◌, ◌<◌, ◌≤◌, Bool, true, false, cond, not, ◌||◌, List, [], ◌∷◌, ◌++◌, filter, take, drop, get_or, length, refl, sym, ap, arith, add-one, inl, inr, Ordering, Less, Equal, Greater, min, Decides, zero-add}
use Rattle.std.specs.Prelude.{Contains, nat_eq, nat_lt}
use Rattle.std.specs.List.{list_any}
use Rattle.std.specs.Cmp.{IsStrictWeakOrder, IsTotalOrder, nat_cmp_is}
use Rattle.std.specs.Ordering.{is_lt, is_eq, nat_cmp, ordering_reverse, ordering_then}
use Rattle.std.proofs.lemmas.Bool.{cases_lt, eq-eqb, false≢true, ltb-false}
use Rattle.std.proofs.lemmas.Cmp.{tied_itself, lists_total, nat_cmp_total, on_total, then_total}
use Rattle.std.proofs.lemmas.List.{append-nil, drop_all, drop_more, get_or_default, map_push, take_all, take_more}
use Rattle.std.proofs.lemmas.List.FromFn.{get_or-range_with_len, length-range_with_len}
use Rattle.std.proofs.lemmas.List.Elements.{filter-append}
use Rattle.std.proofs.lemmas.List.Sorted.{All-permutation, Contains-permutation, sorted_far, sum_by-IsPermutation, ranks_by}
use Rattle.wd_value.proofs.OrderLaws.{compare-exact, compare_total}
use Rattle.wd_value.proofs.Perms.{count_by-cons, count_by-yes}
use Rattle.wd_value.proofs.SameLaws.{same_row-Decides}
use Rattle.wd_value.specs.Bags.{positions, times}
use Rattle.wd_value.specs.Keys.{compare_keys, ascending as ascending_column}
use Rattle.wd_value.specs.Order.{compare}
use Rattle.wd_value.specs.declared.value.Value.TheVariants.{Null}
use Rattle.wd_sort.specs.Sorting.{IsSortOf}
use Rattle.wd_value.specs.Rows.{Row, row_at, rows_at, same_row}
use Rattle.wd_plan.proofs.Places.{times-range-le}
use Rattle.wd_plan.specs.Outcomes.{distinct}
use Rattle.wd_steps.specs.Repeats.{AreMarked, IsRowSort, SameBefore, are_same, ascending, compare_positions, compare_rows, repeats}
use Rattle.wd_steps.proofs.Rising.{AreRisingTo, rising_dropped, rising_kept}

-- ---- the order of rows by their values

pub compare_rows_total : IsTotalOrder compare_rows
compare_rows_total = lists_total (compare_total ascending)

pub positions_order : (rows : List Row) → IsStrictWeakOrder (λ p q. is_lt (compare_positions rows p q))
positions_order rows = ranks_by (then_total (on_total (row_at rows) compare_rows_total) nat_cmp_total) (λ p. p)

then_equal : (o p : Ordering) → ordering_then o p ≡ Equal → (o ≡ Equal) × (p ≡ Equal)
then_equal Less p e = absurd (cc e)
then_equal Equal p e = (refl, e)
then_equal Greater p e = absurd (cc e)

pub compare_rows-exact : (a b : Row) → compare_rows a b ≡ Equal → a ≡ b
compare_rows-exact [] [] e = refl
compare_rows-exact [] (y ∷ b) e = absurd (cc e)
compare_rows-exact (x ∷ a) [] e = absurd (cc e)
compare_rows-exact (x ∷ a) (y ∷ b) e =
    let parts = then_equal (compare ascending x y) (compare_rows a b) e in
    let head : x ≡ y = compare-exact ascending x y parts.0 in
    let tail : a ≡ b = compare_rows-exact a b parts.1 in
    λ i. head i ∷ tail i

compare_rows-tie : (a b : Row) → a ≡ b → compare_rows a b ≡ Equal
compare_rows-tie a b e = ap (λ r. compare_rows r b) e ∙ tied_itself compare_rows_total b

is_eq-exact : (o : Ordering) → is_eq o ≡ true → o ≡ Equal
is_eq-exact Less e = absurd (false≢true e)
is_eq-exact Equal e = refl
is_eq-exact Greater e = absurd (false≢true e)

pub are_same-exact : (a b : Row) → are_same a b ≡ true → a ≡ b
are_same-exact a b e = compare_rows-exact a b (is_eq-exact (compare_rows a b) e)

pub are_same-tie : (a b : Row) → a ≡ b → are_same a b ≡ true
are_same-tie a b e = ap is_eq (compare_rows-tie a b e)

not_less : (o p : Ordering) → is_lt (ordering_then o p) ≡ false → o ≢ Less
not_less o p h e = absurd (false≢true (sym (rw e at h)))

tie_from : (o p : Ordering) → o ≡ ordering_reverse p → o ≢ Less → p ≢ Less → o ≡ Equal
tie_from Less p e f g = absurd (f refl)
tie_from Equal p e f g = refl
tie_from Greater Less e f g = absurd (g refl)
tie_from Greater Equal e f g = e
tie_from Greater Greater e f g = absurd (cc e)

below_by : (p q : ℕ) (b : Bool) → nat_lt p q ≡ b → is_lt (nat_cmp p q) ≡ false → q ≤ p
below_by p q true e h = absurd (false≢true (sym (rw e at h)))
below_by p q false e h = ltb-false p q e

not_below : (p q : ℕ) → is_lt (nat_cmp p q) ≡ false → q ≤ p
not_below p q h = below_by p q (nat_lt p q) refl h

twice : (q : ℕ) (xs : List ℕ) (i : ℕ) → suc i < length xs → get_or xs i 0 ≡ q → get_or xs (suc i) 0 ≡ q → 2 ≤ times nat_eq q xs
twice q [] i h a b = absurd (omega arith)
twice q (x ∷ []) zero h a b = absurd (omega arith)
twice q (x ∷ y ∷ xs) zero h a b =
    let first = count_by-yes (nat_eq q) x (y ∷ xs) (eq-eqb q x (sym a)) in
    let second = count_by-yes (nat_eq q) y xs (eq-eqb q y (sym b)) in
    omega arith
twice q (x ∷ xs) (suc i) h a b =
    let rest = twice q xs i (omega arith) a b in
    let c = count_by-cons (nat_eq q) x xs in
    omega arith

-- an earlier row is the same
abbrev Earlier : List Row → ℕ → Type 0
Earlier rows q = (p : ℕ) × (p < q) × (row_at rows p ≡ row_at rows q)

module _ (rows : List Row) (order : List ℕ) (s : IsRowSort rows order) where
  abbrev lt : ℕ → ℕ → Bool
  lt p q = is_lt (compare_positions rows p q)

  -- each of the rows' positions stands in the order
  stands : (q : ℕ) → q < length rows → Contains order q
  stands q h = Contains-permutation (positions (length rows)) order q s.each_once
      (q, rw (length-range_with_len 0 (length rows)) h, get_or-range_with_len 0 (length rows) q q h ∙ omega arith)

  -- of rows that are the same the lesser position stands first
  by_position : (p q : ℕ) → row_at rows p ≡ row_at rows q → lt p q ≡ false → q ≤ p
  by_position p q same later =
      let tie = compare_rows-tie (row_at rows p) (row_at rows q) same in
      not_below p q (rw tie at later)

  -- a row right after one that is the same repeats that one
  found_earlier : (q : ℕ) → SameBefore rows order (length order) q → Earlier rows q
  found_earlier q (i, within, is, same) =
      let p = get_or order i 0 in
      let alike = are_same-exact (row_at rows p) (row_at rows q) same in
      let up : lt q p ≡ false = rw is at (s.sorted i 0 (omega arith) within) in
      let not_after : p ≤ q = by_position q p (sym alike) up in
      let once = times-range-le q 0 (length rows) in
      let as_often = sum_by-IsPermutation (λ x. cond (nat_eq q x) 1 0) (positions (length rows)) order s.each_once in
      let other : p ≢ q = λ e. (let two = twice q order i (omega arith) e (rw add-one at is) in absurd (omega arith)) in
      (p, omega arith, alike)

  -- a row that repeats an earlier one stands right after one that is the same
  earlier_found : (q : ℕ) → q < length rows → Earlier rows q → SameBefore rows order (length order) q
  earlier_found q below (p, before, same) =
      let (j, j-within, j-at) = stands q below in
      let (i, i-within, i-at) = stands p (omega arith) in
      let j-is : get_or order j 0 ≡ q = get_or_default order j 0 q j-within ∙ j-at in
      let i-is : get_or order i 0 ≡ p = get_or_default order i 0 p i-within ∙ i-at in
      let far = sorted_far lt (positions_order rows) order s.sorted in
      let in_turn : i < j = elim (cases_lt i j) [
        | inl less ↦ less
        | inr after ↦ let up : lt p q ≡ false = rw (i-is, j-is) at (far j i 0 after i-within) in let no_lesser = by_position p q same up in absurd (omega arith)
      ] in
      let k = j - 1 in
      let m = get_or order k 0 in
      let next : k + 1 ≡ j = omega arith in
      let from_p : lt m p ≡ false = rw i-is at (far i k 0 (omega arith) (omega arith)) in
      let to_q : lt q m ≡ false = rw j-is at (far k j 0 (omega arith) j-within) in
      let total = compare_rows_total in
      let alike = total.congr (row_at rows q) (row_at rows p) (row_at rows m) (compare_rows-tie (row_at rows q) (row_at rows p) (sym same)) in
      let tie = tie_from (compare_rows (row_at rows p) (row_at rows m)) (compare_rows (row_at rows m) (row_at rows p)) (total.antisymm (row_at rows p) (row_at rows m)) (λ e. not_less _ _ to_q (alike ∙ e)) (not_less _ _ from_p) in
      let found = compare_rows-exact (row_at rows p) (row_at rows m) tie in
      (k, rw next j-within, rw next j-is, are_same-tie (row_at rows m) (row_at rows q) (sym found ∙ same))

-- ---- what the comparison of two rows leaves at the end of the shorter one

nat_cmp-suc : (m n : ℕ) → nat_cmp (suc m) (suc n) ≡ nat_cmp m n
nat_cmp-suc m n = elim (cases_lt m n) [
  | inl less ↦ sym (nat_cmp_is (suc m) (suc n) Less (omega arith)) ∙ nat_cmp_is m n Less less
  | inr not_less ↦ elim (cases_lt n m) [
    | inl more ↦ sym (nat_cmp_is (suc m) (suc n) Greater (omega arith)) ∙ nat_cmp_is m n Greater more
    | inr not_more ↦ sym (nat_cmp_is (suc m) (suc n) Equal (omega arith)) ∙ nat_cmp_is m n Equal (omega arith)
  ]
]

pub compare_rest : (a b : Row) (i : ℕ) → i ≡ min (length a) (length b) → compare_rows (drop i a) (drop i b) ≡ nat_cmp (length a) (length b)
compare_rest [] [] zero e = refl
compare_rest [] [] (suc i) e = absurd (omega arith)
compare_rest [] (y ∷ b) zero e = nat_cmp_is 0 (suc (length b)) Less (omega arith)
compare_rest [] (y ∷ b) (suc i) e = absurd (omega arith)
compare_rest (x ∷ a) [] zero e = nat_cmp_is (suc (length a)) 0 Greater (omega arith)
compare_rest (x ∷ a) [] (suc i) e = absurd (omega arith)
compare_rest (x ∷ a) (y ∷ b) zero e = absurd (omega arith)
compare_rest (x ∷ a) (y ∷ b) (suc i) e = compare_rest a b i (omega arith) ∙ sym (nat_cmp-suc (length a) (length b))

-- ---- repeats

any_take : (t : Row → Bool) (rows : List Row) (n : ℕ) → list_any t (take n rows) ≡ true → (p : ℕ) × (p < n) × (t (row_at rows p) ≡ true)
any_take t [] zero h = absurd (false≢true h)
any_take t [] (suc n) h = absurd (false≢true h)
any_take t (r ∷ rows) zero h = absurd (false≢true h)
any_take t (r ∷ rows) (suc n) h = by (t r) refl h (any_take t rows n)
  where
    by : (b : Bool) → t r ≡ b → (b || list_any t (take n rows)) ≡ true → (list_any t (take n rows) ≡ true → (p : ℕ) × (p < n) × (t (row_at rows p) ≡ true)) → (p : ℕ) × (p < suc n) × (t (row_at (r ∷ rows) p) ≡ true)
    by true e g later = (zero, omega arith, e)
    by false e g later = let found = later g in (suc found.0, omega (arith, found.1), found.2)

or_true : (b c : Bool) → c ≡ true → (b || c) ≡ true
or_true true c e = refl
or_true false c e = e

take_any : (t : Row → Bool) (rows : List Row) (n p : ℕ) → p < n → p < length rows → t (row_at rows p) ≡ true → list_any t (take n rows) ≡ true
take_any t [] n p l m h = absurd (omega arith)
take_any t (r ∷ rows) zero p l m h = absurd (omega arith)
take_any t (r ∷ rows) (suc n) zero l m h = ap (λ b. b || list_any t (take n rows)) h
take_any t (r ∷ rows) (suc n) (suc p) l m h = or_true (t r) (list_any t (take n rows)) (take_any t rows n p (omega arith) (omega arith) h)

same_answer : {P : Type 0} (b c : Bool) → Decides b P → (c ≡ true → P) → (P → c ≡ true) → b ≡ c
same_answer true c d to from = sym (from (d.0 refl))
same_answer false true d to from = d.1 (to refl)
same_answer false false d to from = refl

-- the marks along the order tell which rows repeat an earlier one
pub repeats_from_marks : (rows : List Row) (order : List ℕ) (marks : List Bool) → IsRowSort rows order → AreMarked rows order (length order) marks → (p : ℕ) → p < length rows → get_or marks p false ≡ repeats rows p
repeats_from_marks rows order marks sorted marked p below =
    let t : Row → Bool = λ q. same_row q (row_at rows p) in
    same_answer (get_or marks p false) (repeats rows p) (marked.each p below)
    (λ h. let (q, before, same) = any_take t rows p h in earlier_found rows order sorted p below (q, before, (same_row-Decides (row_at rows q) (row_at rows p)).0 same))
    (λ s. let (q, before, same) = found_earlier rows order sorted p s in take_any t rows p q before (omega arith) ((same_row-Decides (row_at rows q) (row_at rows p)).1 same))

-- ---- first occurrences, one row on

-- a row is added where it repeats none
abbrev unless_there : Bool → Row → List Row
unless_there b r = cond b [] (r ∷ [])

kept_last : (b c : Bool) (x r : Row) → same_row x r ≡ b → filter (λ q. not (same_row x q)) (unless_there c r) ≡ unless_there (b || c) r
kept_last b true x r e = by b
  where
    by : (b : Bool) → [] ≡ unless_there (b || true) r
    by true = refl
    by false = refl
kept_last true false x r e = rw e
kept_last false false x r e = rw e

pub distinct_push : (rows : List Row) (r : Row) → distinct (rows ++ r ∷ []) ≡ distinct rows ++ unless_there (list_any (λ q. same_row q r) rows) r
distinct_push [] r = refl
distinct_push (x ∷ rows) r =
    let other : Row → Bool = λ q. not (same_row x q) in
    ap (λ l. x ∷ l) (ap (filter other) (distinct_push rows r) ∙ filter-append other (distinct rows) (unless_there (list_any (λ q. same_row q r) rows) r) ∙ ap (λ l. filter other (distinct rows) ++ l) (kept_last (same_row x r) (list_any (λ q. same_row q r) rows) x r refl))

-- ---- the positions of first occurrences, one row on

pub record AreFirstTo (rows : List Row) (kept : List ℕ) (i : ℕ) : Type 0 where
  pub front : rows_at rows kept ≡ distinct (take i rows)
  pub order : AreRisingTo kept i

module _ {rows : List Row} {kept : List ℕ} {i : ℕ} (so_far : AreFirstTo rows kept i) (within : i < length rows) where
  shown : distinct (take (i + 1) rows) ≡ distinct (take i rows) ++ unless_there (repeats rows i) (row_at rows i)
  shown = ap distinct (take_more rows i [] within) ∙ distinct_push (take i rows) (row_at rows i)

  pub first_kept : repeats rows i ≡ false → AreFirstTo rows (kept ++ i ∷ []) (i + 1)
  first_kept new = record {
    front = map_push (row_at rows) kept i ∙ ap (λ l. l ++ row_at rows i ∷ []) so_far.front ∙ sym (shown ∙ ap (λ c. distinct (take i rows) ++ unless_there c (row_at rows i)) new);
    order = rising_kept so_far.order;
  }

  pub first_dropped : repeats rows i ≡ true → AreFirstTo rows kept (i + 1)
  first_dropped again = record {
    front = so_far.front ∙ sym (shown ∙ ap (λ c. distinct (take i rows) ++ unless_there c (row_at rows i)) again ∙ append-nil (distinct (take i rows)));
    order = rising_dropped so_far.order;
  }

pub first_all : (rows : List Row) (kept : List ℕ) (i : ℕ) → AreFirstTo rows kept i → length rows ≤ i → rows_at rows kept ≡ distinct rows
first_all rows kept i so_far all = so_far.front ∙ ap distinct (take_all i rows all)

-- ---- rows of one width, sorted by all of their columns

same_from : (k n : ℕ) (a b : Row) → length a ≡ k + n → length b ≡ k + n → compare_keys (map ascending_column (range_with_len k n)) a b ≡ compare_rows (drop k a) (drop k b)
same_from k zero a b wide other = rw (drop_all k a (omega arith), drop_all k b (omega arith)) refl
same_from k (suc n) a b wide other =
    rw (drop_more a k Null (omega arith), drop_more b k Null (omega arith))
    (ap (ordering_then (compare ascending (get_or a k Null) (get_or b k Null))) (same_from (k + 1) n a b (omega arith) (omega arith)))

pub row_sort : (rows : List Row) (width : ℕ) (order : List ℕ) → All (λ row. length row ≡ width) rows → IsSortOf (map ascending_column (positions width)) rows order → IsRowSort rows order
row_sort rows width order wide s =
    let below : All (λ p. p < length rows) order = All-permutation (λ p. p < length rows) (positions (length rows)) order s.each_once (λ k d low. (
    let within : k < length rows = rw (length-range_with_len 0 (length rows)) at low in
    rw (get_or-range_with_len 0 (length rows) k d within) (omega arith))) in
    record {
      each_once = s.each_once;
      sorted = λ k d low next. (
          let p = get_or order k d in
          let q = get_or order (k + 1) d in
          let first : p < length rows = below k d (omega arith) in
          let second : q < length rows = below (k + 1) d next in
          let same = same_from 0 width (row_at rows q) (row_at rows p) (wide q [] second ∙ sym (zero-add width)) (wide p [] first ∙ sym (zero-add width)) in
          sym (ap (λ o. is_lt (ordering_then o (nat_cmp q p))) same) ∙ s.sorted k d low next);
    }
