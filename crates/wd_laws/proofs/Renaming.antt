-- A rearranged input with the orderings renamed gives the rearranged outcome.
use Rattle.std.proofs.Common.{◌≡◌, ℕ, zero, suc, ◌<◌, Bool, true, false, List, [], ◌∷◌, ◌++◌, map, length, filter, refl, sym, ◌∙◌, ap, subst, arith, nat_eq, eqb, Result, Ok}
use Rattle.std.specs.List.{AllByRecursion}
use Rattle.std.proofs.lemmas.Bool.{eqb-true, eqb-false, eq-eqb, ne_eqb}
use Rattle.std.proofs.lemmas.List.{length-map, get_or-map, get_or_past}
use Rattle.std.proofs.lemmas.Bool.Decides.{Decides-eqb}
use Rattle.wd_plan.proofs.Places.{place-get_or, times-range-le}
use Rattle.wd_plan.proofs.Parts.{Perm-ordering, all_filter, map_filter}
use Rattle.wd_laws.proofs.Parts.{below_all, map_positions}
use Rattle.wd_plan.specs.Calls.{call_value, value_at}
use Rattle.wd_plan.specs.Choices.{AreOrderings}
use Rattle.wd_plan.specs.Faults.{all_ok, and_then}
use Rattle.wd_laws.specs.Laws.{Commutes, renamed}
use Rattle.wd_plan.specs.Outcomes.{call_at, class_among, class_at, extended, ordering_at, window_outcome}
use Rattle.wd_plan.specs.Partitions.{members, partition_of, place_in}
use Rattle.wd_plan.specs.Plans.{ClassRule, WindowRule}
use Rattle.wd_plan.specs.Sorting.{IsInOrder, IsOrdering, same_partition}
use Rattle.wd_plan.specs.declared.function.Function.{Function}
use Rattle.wd_plan.specs.declared.window.Call.{Call}
use Rattle.wd_plan.specs.declared.window.Frame.{Frame}
use Rattle.wd_value.proofs.Perms.{Perm, Perm-all, Perm-map, SameBag-from_Perm}
use Rattle.wd_value.specs.Bags.{EachOnce, positions}
use Rattle.wd_value.specs.Rows.{Row, row_at}
use Rattle.wd_value.specs.declared.value.Fault.{Fault}

rows_of : (rows : List Row) (ps : List ℕ) (q : ℕ) → row_at (map (row_at rows) ps) q ≡ row_at rows (renamed rows ps q)
rows_of rows [] q = sym (get_or_past rows (length rows) [] (omega arith))
rows_of rows (p ∷ ps) zero = refl
rows_of rows (p ∷ ps) (suc q) = rows_of rows ps q

pub map_map : {A B C : Type 0} (f : A → B) (g : B → C) (xs : List A) → map g (map f xs) ≡ map (λ x. g (f x)) xs
map_map f g [] = refl
map_map f g (x ∷ xs) = ap (λ l. g (f x) ∷ l) (map_map f g xs)

place_map_step : (f : ℕ → ℕ) (x q : ℕ) (qs : List ℕ) (b : Bool) → nat_eq q x ≡ b → (f q ≡ f x → q ≡ x) → place_in (map f qs) (f x) ≡ place_in qs x → place_in (map f (q ∷ qs)) (f x) ≡ place_in (q ∷ qs) x
place_map_step f x q qs true e inj h = rw (e, eq-eqb (f q) (f x) (ap f (eqb-true q x e))) refl
place_map_step f x q qs false e inj h = rw (e, ne_eqb (f q) (f x) (λ s. eqb-false q x e (inj s))) (ap suc h)

place_map : (f : ℕ → ℕ) (x : ℕ) (qs : List ℕ) → AllByRecursion (λ q. f q ≡ f x → q ≡ x) qs → place_in (map f qs) (f x) ≡ place_in qs x
place_map f x [] a = refl
place_map f x (q ∷ qs) a = place_map_step f x q qs (nat_eq q x) refl a.0 (place_map f x qs a.1)

module _ (rows : List Row) (ps : List ℕ) (once : EachOnce (length rows) ps) where
  -- the rows in the other order
  abbrev others : List Row
  others = map (row_at rows) ps

  abbrev f : ℕ → ℕ
  f q = renamed rows ps q

  apart : (p q : ℕ) → p < length ps → q < length ps → f p ≡ f q → p ≡ q
  apart p q k l e =
      let c = once (f p) in
      let c' = once (f q) in
      let d = times-range-le (f p) 0 (length rows) in
      let d' = times-range-le (f q) 0 (length rows) in
      sym (place-get_or ps p (length rows) k (omega arith)) ∙ ap (place_in ps) e ∙ place-get_or ps q (length rows) l (omega arith)

  tests_here : ClassRule → ℕ → ℕ → Bool
  tests_here class i q = same_partition class (row_at rows (f i)) (row_at rows (f q))

  same_test : (class : ClassRule) (i : ℕ) → tests_here class i ≡ (λ (q : ℕ). same_partition class (row_at others i) (row_at others q))
  unfolding tests_here
  same_test class i = λ k q. same_partition class (sym (rows_of rows ps i) k) (sym (rows_of rows ps q) k)

  renamed_members : (class : ClassRule) (ordering : List ℕ) (i : ℕ) → members class rows (map f ordering) (f i) ≡ map f (members class others ordering i)
  unfolding tests_here
  renamed_members class ordering i = sym (map_filter f (λ q. same_partition class (row_at rows (f i)) (row_at rows q)) ordering) ∙ ap (λ (t : ℕ → Bool). map f (filter t ordering)) (same_test class i)

  renamed_rows : (class : ClassRule) (ordering : List ℕ) (i : ℕ) → partition_of class rows (map f ordering) (f i) ≡ partition_of class others ordering i
  renamed_rows class ordering i =
      ap (map (row_at rows)) (renamed_members class ordering i) ∙ map_map f (row_at rows) (members class others ordering i)
      ∙ ap (λ (g : ℕ → Row). map g (members class others ordering i)) (λ k q. sym (rows_of rows ps q) k)

  -- a call's value at the renamed position under the renamed ordering
  pub renamed_value : (class : ClassRule) (frame : Frame) (function : Function) (ordering : List ℕ) (i : ℕ) → i < length ps → AllByRecursion (λ q. q < length ps) ordering → value_at class frame function rows (map f ordering) (f i) ≡ value_at class frame function others ordering i
  renamed_value class frame function ordering i k below =
      let ms = members class others ordering i in
      let places : place_in (members class rows (map f ordering) (f i)) (f i) ≡ place_in ms i =
      ap (λ l. place_in l (f i)) (renamed_members class ordering i)
      ∙ place_map f i ms (all_filter (λ q. same_partition class (row_at others i) (row_at others q)) (λ q. q < length ps) (λ q. f q ≡ f i → q ≡ i) (λ q l t e. apart q i l k e) ordering below) in
      λ j. call_value class frame function (renamed_rows class ordering i j) (places j)

  get_or_map_nil : (os : List (List ℕ)) (n : ℕ) → ordering_at (map (map f) os) n ≡ map f (ordering_at os n)
  get_or_map_nil [] n = refl
  get_or_map_nil (o ∷ os) zero = refl
  get_or_map_nil (o ∷ os) (suc n) = get_or_map_nil os n

  below_at : (os : List (List ℕ)) (n : ℕ) → AllByRecursion (AllByRecursion (λ q. q < length ps)) os → AllByRecursion (λ q. q < length ps) (ordering_at os n)
  below_at [] n a = tt
  below_at (o ∷ os) zero a = a.0
  below_at (o ∷ os) (suc n) a = below_at os n a.1

  renamed_calls : (w : WindowRule) (os : List (List ℕ)) (calls : List Call) (i : ℕ) → i < length ps → AllByRecursion (AllByRecursion (λ q. q < length ps)) os → map (call_at w rows (map (map f) os) (f i)) calls ≡ map (call_at w others os i) calls
  renamed_calls w os [] i k below = refl
  renamed_calls w os (call ∷ calls) i k below =
      let one = ap (λ o. value_at (class_at w call.class) call.frame call.function rows o (f i)) (get_or_map_nil os call.class) ∙ renamed_value (class_at w call.class) call.frame call.function (ordering_at os call.class) i k (below_at os call.class below) in
      λ j. one j ∷ renamed_calls w os calls i k below j

  renamed_row : (w : WindowRule) (os : List (List ℕ)) (i : ℕ) → i < length ps → AllByRecursion (AllByRecursion (λ q. q < length ps)) os → extended w rows (map (map f) os) (f i) ≡ extended w others os i
  renamed_row w os i k below = λ j. and_then (all_ok (renamed_calls w os w.calls i k below j)) (λ values. Ok (sym (rows_of rows ps i) j ++ values))

  -- the Window over the rows in the other order shows the rows of the first in the other order
  pub renamed_window : (w : WindowRule) (os : List (List ℕ)) → AllByRecursion (AllByRecursion (λ q. q < length ps)) os → window_outcome w others os ≡ all_ok (map (extended w rows (map (map f) os)) ps)
  renamed_window w os below =
      let seen = map (extended w rows (map (map f) os)) ps in
      let long : length others ≡ length seen = length-map ps (row_at rows) ∙ sym (length-map ps (extended w rows (map (map f) os))) in
      let shown : map (extended w others os) (positions (length seen)) ≡ seen = map_positions (extended w others os) (extended w rows (map (map f) os) (length rows)) seen 0 (λ k l.
      let k' : k < length ps = subst (λ n. k < n) (length-map ps (extended w rows (map (map f) os))) l in
      ap (extended w others os) (omega arith) ∙ sym (renamed_row w os k k' below) ∙ sym (get_or-map (extended w rows (map (map f) os)) ps k (length rows) (extended w rows (map (map f) os) (length rows)) k')) in
      ap (λ n. all_ok (map (extended w others os) (positions n))) long ∙ ap (λ (rs : List (Result Row Fault)). all_ok rs) shown

  -- a Limit cuts the same rows
  pub renamed_order : (ordering : List ℕ) → map (row_at others) ordering ≡ map (row_at rows) (map f ordering)
  renamed_order ordering = ap (λ (g : ℕ → Row). map g ordering) (λ k q. rows_of rows ps q k) ∙ sym (map_map f (row_at rows) ordering)

  all_ps : map f (positions (length ps)) ≡ ps
  all_ps = map_positions f (length rows) ps 0 (λ k l. ap f (omega arith))

  long_others : length others ≡ length ps
  long_others = length-map ps (row_at rows)

  pub renamed_ordering : (class : ClassRule) (ordering : List ℕ) → IsOrdering class others ordering → IsOrdering class rows (map f ordering)
  renamed_ordering class ordering v =
      let there : Perm ℕ (positions (length ps)) ordering = subst (λ n. Perm ℕ (positions n) ordering) long_others (Perm-ordering others ordering v.once) in
      let moved : Perm ℕ ps (map f ordering) = subst (λ l. Perm ℕ l (map f ordering)) all_ps (Perm-map f there) in
      record {
        once = λ q. once q ∙ SameBag-from_Perm eqb Decides-eqb moved q;
        in_order = subst (IsInOrder class) (renamed_order ordering) v.in_order;
      }

  below_ordering : (ordering : List ℕ) → EachOnce (length others) ordering → AllByRecursion (λ q. q < length ps) ordering
  below_ordering ordering v = Perm-all (λ q. q < length ps) (Perm-ordering others ordering v) (subst (λ n. AllByRecursion (λ q. q < length ps) (positions n)) (sym long_others) (below_all 0 (length ps) (length ps) (omega arith)))

  all_below : (os : List (List ℕ)) → ((n : ℕ) → n < length os → EachOnce (length others) (ordering_at os n)) → AllByRecursion (AllByRecursion (λ q. q < length ps)) os
  all_below [] h = tt
  all_below (o ∷ os) h = (below_ordering o (h 0 (omega arith)), all_below os (λ n l. h (suc n) (omega arith)))

  pub renamed_orderings : (classes : List ClassRule) (os : List (List ℕ)) → AreOrderings classes others os → AreOrderings classes rows (map (map f) os)
  renamed_orderings classes os v = record {
    number = length-map os (map f) ∙ v.number;
    each = λ n l. subst (IsOrdering (class_among classes n) rows) (sym (get_or_map_nil os n)) (renamed_ordering (class_among classes n) (ordering_at os n) (v.each n l));
  }

  pub commutes : (w : WindowRule) (os : List (List ℕ)) → AreOrderings w.classes others os → Commutes w rows ps os
  commutes w os v = record {
    valid = renamed_orderings w.classes os v;
    same_rows = renamed_window w os (all_below os (λ n l. (v.each n (subst (λ k. n < k) v.number l)).once));
  }
