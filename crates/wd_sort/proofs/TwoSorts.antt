-- Two stable sorts, by the last columns and then by the first ones, are one.
use Rattle.std.proofs.Common.{◌≡◌, ◌∙◌, ℕ, ◌+◌, ◌≤◌, Bool, true, false, not, ◌&&◌, zero, suc, List, [], ◌∷◌, ◌++◌, filter, take, drop, get_or, length, refl, sym, ap, arith, Ordering, Less, Equal, Greater}
use Rattle.std.specs.List.Sorted.{ties}
use Rattle.std.specs.Ordering.{is_lt, ordering_reverse, ordering_then}
use Rattle.std.proofs.lemmas.List.Sorted.{IsPermutation-refl, IsPermutation-trans, ties_stay_sorted}
use Rattle.std.proofs.lemmas.List.{take-append-drop}
use Rattle.wd_value.proofs.KeyLaws.{compare_keys_total}
use Rattle.wd_value.specs.Keys.{compare_keys}
use Rattle.wd_value.specs.Order.{compare}
use Rattle.wd_value.specs.Rows.{Row, column_of, row_at}
use Rattle.wd_value.specs.declared.order.SortColumn.{SortColumn}
use Rattle.wd_sort.specs.Sorting.{IsStableSortOf, compare_rows_at}
use Rattle.wd_sort.proofs.Order.{rows_order, then_not_less}

-- ---- by the first columns, and then by the others

then_then : (o p q : Ordering) → ordering_then (ordering_then o p) q ≡ ordering_then o (ordering_then p q)
then_then Less p q = refl
then_then Equal p q = refl
then_then Greater p q = refl

pub compare_keys-append : (xs ys : List SortColumn) (a b : Row) → compare_keys (xs ++ ys) a b ≡ ordering_then (compare_keys xs a b) (compare_keys ys a b)
compare_keys-append [] ys a b = refl
compare_keys-append (x ∷ xs) ys a b =
    ap (ordering_then (compare x.key (column_of a x.column) (column_of b x.column))) (compare_keys-append xs ys a b)
    ∙ sym (then_then (compare x.key (column_of a x.column) (column_of b x.column)) (compare_keys xs a b) (compare_keys ys a b))

-- ---- what passes two tests

filter_both_step : {X : Type 0} (p q : X → Bool) (x : X) (xs : List X) (a b : Bool) → p x ≡ a → q x ≡ b → filter (λ y. p y && q y) xs ≡ filter q (filter p xs) → filter (λ y. p y && q y) (x ∷ xs) ≡ filter q (filter p (x ∷ xs))
filter_both_step p q x xs true true e f h = rw (e, f) (ap (λ l. x ∷ l) h)
filter_both_step p q x xs true false e f h = rw (e, f) h
filter_both_step p q x xs false b e f h = rw e h

filter_both : {X : Type 0} (p q : X → Bool) (xs : List X) → filter (λ y. p y && q y) xs ≡ filter q (filter p xs)
filter_both p q [] = refl
filter_both p q (x ∷ xs) = filter_both_step p q x xs (p x) (q x) refl refl (filter_both p q xs)

and_back : (a b : Bool) → (a && b) ≡ (b && a)
and_back true true = refl
and_back true false = refl
and_back false true = refl
and_back false false = refl

ties_then : (f f' o o' : Ordering) → f' ≡ ordering_reverse f → o' ≡ ordering_reverse o
    → (not (is_lt (ordering_then f o)) && not (is_lt (ordering_then f' o'))) ≡ ((not (is_lt f) && not (is_lt f')) && (not (is_lt o) && not (is_lt o')))
ties_then Less f' o o' e g = refl
ties_then Equal f' o o' e g = rw e refl
ties_then Greater f' o o' e g = rw e refl

module _ (firsts others : List SortColumn) (rows : List Row) where
  abbrev by_firsts : ℕ → ℕ → Bool
  by_firsts p q = is_lt (compare_rows_at firsts rows p q)

  abbrev by_others : ℕ → ℕ → Bool
  by_others p q = is_lt (compare_rows_at others rows p q)

  abbrev by_all : ℕ → ℕ → Bool
  by_all p q = is_lt (compare_rows_at (firsts ++ others) rows p q)

  in_turn : (p q : ℕ) → compare_rows_at (firsts ++ others) rows p q ≡ ordering_then (compare_rows_at firsts rows p q) (compare_rows_at others rows p q)
  in_turn p q = compare_keys-append firsts others (row_at rows p) (row_at rows q)

  ties_both : (x y : ℕ) → ties by_all x y ≡ (ties by_firsts x y && ties by_others x y)
  ties_both x y =
      (λ i. not (is_lt (in_turn x y i)) && not (is_lt (in_turn y x i)))
      ∙ ties_then (compare_rows_at firsts rows x y) (compare_rows_at firsts rows y x) (compare_rows_at others rows x y) (compare_rows_at others rows y x)
      ((compare_keys_total firsts).antisymm (row_at rows y) (row_at rows x)) ((compare_keys_total others).antisymm (row_at rows y) (row_at rows x))

  filter_ties : (x : ℕ) (xs : List ℕ) → filter (ties by_all x) xs ≡ filter (ties by_others x) (filter (ties by_firsts x) xs)
  filter_ties x xs = (λ i. filter (λ y. ties_both x y i) xs) ∙ filter_both (ties by_firsts x) (ties by_others x) xs

  filter_back : (x : ℕ) (xs : List ℕ) → filter (ties by_others x) (filter (ties by_firsts x) xs) ≡ filter (ties by_firsts x) (filter (ties by_others x) xs)
  filter_back x xs =
      sym (filter_both (ties by_firsts x) (ties by_others x) xs)
      ∙ (λ i. filter (λ y. and_back (ties by_firsts x y) (ties by_others x y) i) xs)
      ∙ filter_both (ties by_others x) (ties by_firsts x) xs

  pub two_sorts_are_one : (given mid order : List ℕ) → IsStableSortOf others rows given mid → IsStableSortOf firsts rows mid order → IsStableSortOf (firsts ++ others) rows given order
  two_sorts_are_one given mid order s t = record {
    rearranged = IsPermutation-trans given mid order s.rearranged t.rearranged;
    sorted = λ k d low high. (
        let p = get_or order k d in
        let q = get_or order (k + 1) d in
        ap is_lt (in_turn q p)
        ∙ then_not_less (compare_rows_at firsts rows q p) (compare_rows_at others rows q p) (compare_rows_at firsts rows p q) (t.sorted k d low high)
        ((compare_keys_total firsts).antisymm (row_at rows p) (row_at rows q))
        (λ tie. ties_stay_sorted by_others by_firsts (rows_order others rows) (rows_order firsts rows) mid order s.sorted t.stable k d high tie)
        );
    stable = λ x.
        filter_ties x order
        ∙ ap (filter (ties by_others x)) (t.stable x)
        ∙ filter_back x mid
        ∙ ap (filter (ties by_firsts x)) (s.stable x)
        ∙ sym (filter_back x given)
        ∙ sym (filter_ties x given);
  }

-- ---- no columns, and the columns from two places on

pub IsStableSortOf-given : (rows : List Row) (given : List ℕ) → IsStableSortOf [] rows given given
IsStableSortOf-given rows given = record {
  rearranged = IsPermutation-refl given;
  sorted = λ k d low high. refl;
  stable = λ x. refl;
}

pub drop_in_parts : {X : Type 0} (xs : List X) (i j : ℕ) → i ≤ j → drop i (take j xs) ++ drop j xs ≡ drop i xs
drop_in_parts xs zero j low = take-append-drop j xs
drop_in_parts [] (suc i) zero low = absurd (omega arith)
drop_in_parts [] (suc i) (suc j) low = refl
drop_in_parts (x ∷ xs) (suc i) zero low = absurd (omega arith)
drop_in_parts (x ∷ xs) (suc i) (suc j) low = drop_in_parts xs i j (omega arith)

pub drop_all : {X : Type 0} (xs : List X) → drop (length xs) xs ≡ []
drop_all [] = refl
drop_all (x ∷ xs) = drop_all xs
