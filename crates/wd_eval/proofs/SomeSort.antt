-- Each list has a stable sort: elements are put in one by one, from the last.
use Rattle.std.proofs.Common.{◌≡◌, ℕ, zero, suc, ◌+◌, ◌<◌, Bool, true, false, cond, not, ◌&&◌, List, [], ◌∷◌, filter, length, get_or, refl, sym, ◌∙◌, ap, subst, arith}
use Rattle.std.specs.List.{AllByRecursion}
use Rattle.std.specs.List.Sorted.{IsSortedBy, ties}
use Rattle.std.specs.Cmp.{IsStrictWeakOrder}
use Rattle.std.specs.Ordering.{is_lt}
use Rattle.wd_value.proofs.Perms.{Perm, done, keep, flip, both, Perm-refl, Perm-all}
use Rattle.wd_value.specs.Rows.{Row}
use Rattle.wd_plan.proofs.Sorted.{Rising}
use Rattle.wd_partition.proofs.Grouping.{IsPermutation-from_Perm}
use Rattle.wd_value.specs.declared.order.SortColumn.{SortColumn}
use Rattle.wd_sort.specs.Sorting.{IsStableSortOf, compare_rows_at}
use Rattle.wd_sort.proofs.Order.{rows_order}
use Rattle.wd_eval.proofs.Stable.{NotLess, keep_head}

module _ {X : Type 0} (lt : X → X → Bool) (order : IsStrictWeakOrder lt) where
  -- after all that are less, before those that tie
  abbrev inserted : X → List X → List X
  inserted x [] = x ∷ []
  inserted x (y ∷ ys) = cond (lt y x) (y ∷ inserted x ys) (x ∷ y ∷ ys)

  abbrev sorted : List X → List X
  sorted [] = []
  sorted (x ∷ xs) = inserted x (sorted xs)

  insert_after : (x y : X) (ys : List X) → lt y x ≡ true → inserted x (y ∷ ys) ≡ y ∷ inserted x ys
  insert_after x y ys e = ap (λ b. cond b (y ∷ inserted x ys) (x ∷ y ∷ ys)) e

  insert_before : (x y : X) (ys : List X) → lt y x ≡ false → inserted x (y ∷ ys) ≡ x ∷ y ∷ ys
  insert_before x y ys e = ap (λ b. cond b (y ∷ inserted x ys) (x ∷ y ∷ ys)) e

  -- ---- the same elements

  Perm-inserted : (x : X) (ys : List X) → Perm X (x ∷ ys) (inserted x ys)
  Perm-inserted x [] = Perm-refl (x ∷ [])
  Perm-inserted x (y ∷ ys) = by (lt y x) refl (Perm-inserted x ys)
    where
      by : (b : Bool) → lt y x ≡ b → Perm X (x ∷ ys) (inserted x ys) → Perm X (x ∷ y ∷ ys) (inserted x (y ∷ ys))
      by true e h = subst (λ l. Perm X (x ∷ y ∷ ys) l) (sym (insert_after x y ys e)) (both (flip x y ys) (keep y h))
      by false e h = subst (λ l. Perm X (x ∷ y ∷ ys) l) (sym (insert_before x y ys e)) (Perm-refl (x ∷ y ∷ ys))

  Perm-sorted : (xs : List X) → Perm X xs (sorted xs)
  Perm-sorted [] = done
  Perm-sorted (x ∷ xs) = both (keep x (Perm-sorted xs)) (Perm-inserted x (sorted xs))

  -- ---- in order

  before_all : (x y : X) (ys : List X) → lt y x ≡ false → AllByRecursion (NotLess lt order y) ys → AllByRecursion (NotLess lt order x) ys
  before_all x y [] e a = tt
  before_all x y (z ∷ ys) e a = (order.chain z y x a.0 e, before_all x y ys e a.1)

  Rising-inserted : (x : X) (ys : List X) → Rising (NotLess lt order) ys → Rising (NotLess lt order) (inserted x ys)
  Rising-inserted x [] r = (tt, tt)
  Rising-inserted x (y ∷ ys) r = by (lt y x) refl (Rising-inserted x ys r.1)
    where
      by : (b : Bool) → lt y x ≡ b → Rising (NotLess lt order) (inserted x ys) → Rising (NotLess lt order) (inserted x (y ∷ ys))
      by true e h = subst (Rising (NotLess lt order)) (sym (insert_after x y ys e)) (Perm-all (NotLess lt order y) (Perm-inserted x ys) (order.one_way y x e, r.0), h)
      by false e h = subst (Rising (NotLess lt order)) (sym (insert_before x y ys e)) ((e, before_all x y ys e r.0), r)

  Rising-sorted : (xs : List X) → Rising (NotLess lt order) (sorted xs)
  Rising-sorted [] = tt
  Rising-sorted (x ∷ xs) = Rising-inserted x (sorted xs) (Rising-sorted xs)

  next_in_order : (xs : List X) → Rising (NotLess lt order) xs → IsSortedBy lt xs
  next_in_order [] r = λ k d low high. absurd (omega arith)
  next_in_order (x ∷ []) r = λ k d low high. absurd (omega arith)
  next_in_order (x ∷ y ∷ xs) r = λ k d low high. at_place k d high (next_in_order (y ∷ xs) r.1)
    where
      at_place : (k : ℕ) (d : X) → k + 1 < length (x ∷ y ∷ xs) → IsSortedBy lt (y ∷ xs) → lt (get_or (x ∷ y ∷ xs) (k + 1) d) (get_or (x ∷ y ∷ xs) k d) ≡ false
      at_place zero d high later = r.0.0
      at_place (suc k) d high later =
          let e : suc k + 1 ≡ suc (k + 1) = omega arith in
          ap (λ n. lt (get_or (x ∷ y ∷ xs) n d) (get_or (y ∷ xs) k d)) e ∙ later k d (omega arith) (omega arith)

  -- ---- those that tie as they stood

  drop_head : (p : X → Bool) (x : X) (xs : List X) → p x ≡ false → filter p (x ∷ xs) ≡ filter p xs
  drop_head p x xs e = ap (λ b. cond b (x ∷ filter p xs) (filter p xs)) e

  -- what ties with z is not less than what ties with z
  not_both : (x y z : X) → lt y x ≡ true → ties lt z y ≡ true → ties lt z x ≡ false
  not_both x y z less tie = by (ties lt z x) refl
    where
      by : (b : Bool) → ties lt z x ≡ b → ties lt z x ≡ false
      by false e = e
      by true e = absurd (
          let up : lt y z ≡ false = second (lt z y) (lt y z) tie in
          let down : lt z x ≡ false = first (lt z x) (lt x z) e in
          let none : lt y x ≡ false = order.chain y z x up down in
          cc)
        where
          first : (a b : Bool) → (not a && not b) ≡ true → a ≡ false
          first true b e = cc
          first false b e = refl

          second : (a b : Bool) → (not a && not b) ≡ true → b ≡ false
          second true b e = cc
          second false true e = cc
          second false false e = refl

  passed : (z x y : X) (ys : List X) (b : Bool) → ties lt z y ≡ b → lt y x ≡ true → filter (ties lt z) (inserted x ys) ≡ filter (ties lt z) (x ∷ ys) → filter (ties lt z) (y ∷ inserted x ys) ≡ filter (ties lt z) (x ∷ y ∷ ys)
  passed z x y ys true f e h =
      let p = ties lt z in
      keep_head lt order p y (inserted x ys) f ∙ ap (λ l. y ∷ l) (h ∙ drop_head p x ys (not_both x y z e f)) ∙ sym (keep_head lt order p y ys f) ∙ sym (drop_head p x (y ∷ ys) (not_both x y z e f))
  passed z x y ys false f e h =
      let p = ties lt z in
      drop_head p y (inserted x ys) f ∙ h ∙ ap (λ l. cond (p x) (x ∷ l) l) (sym (drop_head p y ys f))

  stable_inserted : (z x : X) (ys : List X) → filter (ties lt z) (inserted x ys) ≡ filter (ties lt z) (x ∷ ys)
  stable_inserted z x [] = refl
  stable_inserted z x (y ∷ ys) = by (lt y x) refl (stable_inserted z x ys)
    where
      by : (b : Bool) → lt y x ≡ b → filter (ties lt z) (inserted x ys) ≡ filter (ties lt z) (x ∷ ys) → filter (ties lt z) (inserted x (y ∷ ys)) ≡ filter (ties lt z) (x ∷ y ∷ ys)
      by true e h = ap (filter (ties lt z)) (insert_after x y ys e) ∙ passed z x y ys (ties lt z y) refl e h
      by false e h = ap (filter (ties lt z)) (insert_before x y ys e)

  stable_sorted : (z : X) (xs : List X) → filter (ties lt z) (sorted xs) ≡ filter (ties lt z) xs
  stable_sorted z [] = refl
  stable_sorted z (x ∷ xs) = stable_inserted z x (sorted xs) ∙ ap (λ l. cond (ties lt z x) (x ∷ l) l) (stable_sorted z xs)

pub some_stable_sort : (columns : List SortColumn) (rows : List Row) (given : List ℕ) → (ordering : List ℕ) × IsStableSortOf columns rows given ordering
some_stable_sort columns rows given =
    let lt = λ (p q : ℕ). is_lt (compare_rows_at columns rows p q) in
    let order = rows_order columns rows in (
      sorted lt order given,
      record {
        rearranged = IsPermutation-from_Perm (Perm-sorted lt order given);
        sorted = next_in_order lt order (sorted lt order given) (Rising-sorted lt order given);
        stable = λ z. stable_sorted lt order z given;
      },
    )
