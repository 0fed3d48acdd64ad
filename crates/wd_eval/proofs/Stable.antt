-- A list has one stable sort.
use Rattle.std.proofs.Common.{◌≡◌, ℕ, suc, ◌<◌, Bool, true, false, cond, not, ◌&&◌, List, [], ◌∷◌, filter, length, get_or, refl, sym, ◌∙◌, ap, subst, arith}
use Rattle.std.specs.List.{AllByRecursion}
use Rattle.std.specs.List.Sorted.{IsSortedBy, ties}
use Rattle.std.specs.Cmp.{IsStrictWeakOrder}
use Rattle.std.proofs.lemmas.List.Sorted.{sorted_far}
use Rattle.wd_value.specs.Rows.{Row}
use Rattle.wd_plan.proofs.Sorted.{Rising}
use Rattle.wd_value.specs.declared.order.SortColumn.{SortColumn}
use Rattle.wd_sort.specs.Sorting.{IsStableSortOf, compare_rows_at}
use Rattle.wd_sort.proofs.Order.{rows_order}
use Rattle.std.specs.Ordering.{is_lt}

module _ {X : Type 0} (lt : X → X → Bool) (order : IsStrictWeakOrder lt) where
  never_less : (x : X) → lt x x ≡ false
  never_less x = by (lt x x) refl
    where
      by : (b : Bool) → lt x x ≡ b → lt x x ≡ false
      by true e = order.one_way x x e
      by false e = e

  -- not less than
  abbrev pub NotLess : X → X → Type 0
  NotLess x y = lt y x ≡ false

  from_each : (x : X) (xs : List X) → ((k : ℕ) → k < length xs → NotLess x (get_or xs k x)) → AllByRecursion (NotLess x) xs
  from_each x [] h = tt
  from_each x (y ∷ xs) h = (h 0 (omega arith), from_each x xs (λ k l. h (suc k) (omega arith)))

  rising_from : (xs : List X) → ((i j : ℕ) (d : X) → i < j → j < length xs → lt (get_or xs j d) (get_or xs i d) ≡ false) → Rising NotLess xs
  rising_from [] h = tt
  rising_from (x ∷ xs) h = (from_each x xs (λ k l. h 0 (suc k) x (omega arith) (omega arith)), rising_from xs (λ i j d k l. h (suc i) (suc j) d (omega arith) (omega arith)))

  rising : (xs : List X) → IsSortedBy lt xs → Rising NotLess xs
  rising xs sorted = rising_from xs (λ i j d k l. sorted_far lt order xs sorted i j d (omega arith) l)

  tie_self : (x : X) → ties lt x x ≡ true
  tie_self x = λ i. not (never_less x i) && not (never_less x i)

  pub keep_head : (p : X → Bool) (x : X) (xs : List X) → p x ≡ true → filter p (x ∷ xs) ≡ x ∷ filter p xs
  keep_head p x xs e = ap (λ b. cond b (x ∷ filter p xs) (filter p xs)) e

  -- y is less than the head: then nothing in the list ties with y
  below_all : (y x z : X) → lt y x ≡ true → NotLess x z → ties lt y z ≡ false
  below_all y x z less h = by (lt z y) refl
    where
      by : (b : Bool) → lt z y ≡ b → ties lt y z ≡ false
      by true e = ap (λ c. not (lt y z) && not c) e ∙ falsely (not (lt y z))
        where
          falsely : (b : Bool) → (b && false) ≡ false
          falsely true = refl
          falsely false = refl
      by false e = by_other (lt y z) refl
        where
          by_other : (b : Bool) → lt y z ≡ b → ties lt y z ≡ false
          by_other true f = ap (λ c. not c && not (lt z y)) f
          by_other false f = absurd (let g : lt y x ≡ false = order.chain y z x f h in cc)

  none_tie : (y x : X) (zs : List X) → lt y x ≡ true → AllByRecursion (NotLess x) zs → filter (ties lt y) zs ≡ []
  none_tie y x [] less all = refl
  none_tie y x (z ∷ zs) less all = ap (λ b. cond b (z ∷ filter (ties lt y) zs) (filter (ties lt y) zs)) (below_all y x z less all.0) ∙ none_tie y x zs less all.1

  -- the heads of two rising lists with the same ties
  not_below : (x y : X) (xs ys : List X) → AllByRecursion (NotLess x) xs → filter (ties lt y) (x ∷ xs) ≡ filter (ties lt y) (y ∷ ys) → lt y x ≡ false
  not_below x y xs ys rise same = by (lt y x) refl
    where
      by : (b : Bool) → lt y x ≡ b → lt y x ≡ false
      by false e = e
      by true e = absurd (
          let none : filter (ties lt y) (x ∷ xs) ≡ [] = none_tie y x (x ∷ xs) e (never_less x, rise) in
          let some = keep_head (ties lt y) y ys (tie_self y) in
          cc)

  tail_same : (p : X → Bool) (x : X) (xs ys : List X) → filter p (x ∷ xs) ≡ filter p (x ∷ ys) → filter p xs ≡ filter p ys
  tail_same p x xs ys e = by (p x) refl
    where
      by : (b : Bool) → p x ≡ b → filter p xs ≡ filter p ys
      by true f = let a = keep_head p x xs f in let b = keep_head p x ys f in cc
      by false f = sym (ap (λ b. cond b (x ∷ filter p xs) (filter p xs)) f) ∙ e ∙ ap (λ b. cond b (x ∷ filter p ys) (filter p ys)) f

  same_heads : (x y : X) (xs ys : List X) → Rising NotLess (x ∷ xs) → Rising NotLess (y ∷ ys) → ((z : X) → filter (ties lt z) (x ∷ xs) ≡ filter (ties lt z) (y ∷ ys)) → x ≡ y
  same_heads x y xs ys r s same =
      let a : lt y x ≡ false = not_below x y xs ys r.0 (same y) in
      let b : lt x y ≡ false = not_below y x ys xs s.0 (sym (same x)) in
      let tie : ties lt x y ≡ true = (λ i. not (b i) && not (a i)) in
      let first = keep_head (ties lt x) x xs (tie_self x) in
      let second = keep_head (ties lt x) y ys tie in
      let all = same x in
      cc

  one_order : (xs ys : List X) → Rising NotLess xs → Rising NotLess ys → ((z : X) → filter (ties lt z) xs ≡ filter (ties lt z) ys) → xs ≡ ys
  one_order [] [] r s same = refl
  one_order [] (y ∷ ys) r s same = absurd (let a = same y in let b = keep_head (ties lt y) y ys (tie_self y) in cc)
  one_order (x ∷ xs) [] r s same = absurd (let a = same x in let b = keep_head (ties lt x) x xs (tie_self x) in cc)
  one_order (x ∷ xs) (y ∷ ys) r s same =
      let e = same_heads x y xs ys r s same in
      let tails : (z : X) → filter (ties lt z) xs ≡ filter (ties lt z) ys = λ z. tail_same (ties lt z) y xs ys (subst (λ v. filter (ties lt z) (v ∷ xs) ≡ filter (ties lt z) (y ∷ ys)) e (same z)) in
      λ i. e i ∷ one_order xs ys r.1 s.1 tails i

-- a stable sort by columns is the only one
pub one_stable_sort : (columns : List SortColumn) (rows : List Row) (given a b : List ℕ) → IsStableSortOf columns rows given a → IsStableSortOf columns rows given b → a ≡ b
one_stable_sort columns rows given a b s t =
    let lt = λ (p q : ℕ). is_lt (compare_rows_at columns rows p q) in
    let order = rows_order columns rows in
    one_order lt order a b (rising lt order a s.sorted) (rising lt order b t.sorted) (λ z. s.stable z ∙ sym (t.stable z))
