-- A fact that goes over its left side, and passes over a member with which it came last, stands once with each.
use Rattle.std.proofs.Common.{◌≡◌, ℕ, ◌+◌, ◌-◌, ◌<◌, ◌≤◌, Bool, true, false, List, [], ◌∷◌, ◌++◌, length, get_or, replicate, slice_get, Some, refl, sym, ◌∙◌, ap, arith, eq-eqb, ◌⊎◌, inl, inr, nat_eq, if◌then◌else◌}
use Rattle.std.specs.List.{AllByRecursion}
use Rattle.std.proofs.lemmas.Bool.{eqb-true}
use Rattle.std.proofs.lemmas.List.{get_or-replicate, length-replicate, length_push}
use Rattle.wd_step_facts.specs.declared.facts.Member.{Member}
use Rattle.wd_step_facts.specs.Facts.{Fact, FactList}
use Rattle.wd_sets.specs.Sets.{place, same_member, stands_in}
use Rattle.wd_close.specs.Closure.{is_named}
use Rattle.wd_close.specs.Reached.{added, all_added, count_new, counted, is_last, is_number, watched, watched_each, watched_once, watched_one}
use Rattle.wd_close.proofs.Lists.{Apart, all_at, apart_all, apart_push, bool_cases, different, or_left, or_right, same_self}
use Rattle.wd_close.proofs.Names.{IsNamed}
use Rattle.wd_close.proofs.Steps.{sizes}
use Rattle.wd_close.proofs.Watching.{each_is, each_long, place_lt, put_all, put_each, with_if}

last_at : (l : List ℕ) (i : ℕ) → slice_get (l ++ i ∷ []) (length l) ≡ Some i
last_at [] i = refl
last_at (x ∷ l) i = last_at l i

is_last-push : (l : List ℕ) (i j : ℕ) → is_last (l ++ i ∷ []) j ≡ nat_eq i j
is_last-push l i j =
    let e : length (l ++ i ∷ []) - 1 ≡ length l = omega (arith, length_push l i) in
    ap (λ k. is_number (slice_get (l ++ i ∷ []) k) j) e ∙ ap (λ o. is_number o j) (last_at l i)

-- no list ends with this number or a later one
abbrev IsBelow : List (List ℕ) → ℕ → Type 0
IsBelow W i = (m : Member) → place m < length W → (j : ℕ) → i ≤ j → is_last (get_or W (place m) []) j ≡ false

apart_numbers : (i j : ℕ) → i < j → nat_eq i j ≡ false
apart_numbers i j h = by (bool_cases (nat_eq i j))
  where
    by : (nat_eq i j ≡ true) ⊎ (nat_eq i j ≡ false) → nat_eq i j ≡ false
    by (inl e) = absurd (omega (arith, h, eqb-true i j e))
    by (inr e) = e

below_next : (W : List (List ℕ)) (i : ℕ) (d : List Member) → Apart d → IsBelow W i → IsBelow (put_each W i d) (i + 1)
below_next W i d a below m h j k = ap (λ l. is_last l j) (each_is W i d m here a) ∙ by (stands_in d m)
  where
    here : place m < length W
    here = omega (arith, h, each_long W i d)

    by : (b : Bool) → is_last (with_if b (get_or W (place m) []) i) j ≡ false
    by true = is_last-push (get_or W (place m) []) i j ∙ apart_numbers i j (omega (arith, k))
    by false = below m here j (omega (arith, k))

last_is : (W : List (List ℕ)) (i : ℕ) (d : List Member) (m : Member) → place m < length W → Apart d → IsBelow W i → is_last (get_or (put_each W i d) (place m) []) i ≡ stands_in d m
last_is W i d m h a below = ap (λ l. is_last l i) (each_is W i d m h a) ∙ by (stands_in d m)
  where
    by : (b : Bool) → is_last (with_if b (get_or W (place m) []) i) i ≡ b
    by true = is_last-push (get_or W (place m) []) i i ∙ eq-eqb i i refl
    by false = below m h i (omega arith)

-- ---- the same as with different members

put_push : (W : List (List ℕ)) (i : ℕ) (d : List Member) (m : Member) → put_each W i (d ++ m ∷ []) ≡ watched_one (put_each W i d) i m
put_push W i [] m = refl
put_push W i (x ∷ d) m = put_push (watched_one W i x) i d m

record IsOnce (W : List (List ℕ)) (i : ℕ) (d ms : List Member) : Type 0 where
  lists : watched_each (put_each W i d) i ms ≡ put_each W i (all_added d ms)
  count : length d + count_new (put_each W i d) i ms ≡ length (all_added d ms)

module _ (W : List (List ℕ)) (i : ℕ) (below : IsBelow W i) where
  same_each : (d ms : List Member) → Apart d → ((m : Member) → stands_in ms m ≡ true → place m < length W) → IsOnce W i d ms
  same_each d [] a h = record { lists = refl; count = omega arith }
  same_each d (m ∷ ms) a h = by (λ r b. same_each r ms b (λ x e. h x (or_right (same_member x m) (stands_in ms x) e))) (bool_cases (stands_in d m))
    where
      is : is_last (get_or (put_each W i d) (place m) []) i ≡ stands_in d m
      is = last_is W i d m (h m (or_left (same_member m m) (stands_in ms m) (same_self m))) a below

      by : ((r : List Member) → Apart r → IsOnce W i r ms) → (stands_in d m ≡ true) ⊎ (stands_in d m ≡ false) → IsOnce W i d (m ∷ ms)
      by later (inl e) =
          let rest = later d a in
          let once : watched_once (put_each W i d) i m ≡ put_each W i d = ap (λ (b : Bool). if b then put_each W i d else watched_one (put_each W i d) i m) (is ∙ e) in
          let same : added d m ≡ d = ap (λ (b : Bool). if b then d else d ++ m ∷ []) e in
          let none : ◌≡◌ {A = ℕ} (if is_last (get_or (put_each W i d) (place m) []) i then 0 else 1) 0 = ap (λ (b : Bool). if b then 0 else 1) (is ∙ e) in
          record {
            lists = ap (λ w. watched_each w i ms) once ∙ rest.lists ∙ ap (λ r. put_each W i (all_added r ms)) (sym same);
            count = omega (arith, none, rest.count, ap (λ w. count_new w i ms) once, ap (λ r. length (all_added r ms)) same);
          }
      by later (inr e) =
          let rest = later (d ++ m ∷ []) (apart_push d m a e) in
          let once : watched_once (put_each W i d) i m ≡ put_each W i (d ++ m ∷ []) = ap (λ (b : Bool). if b then put_each W i d else watched_one (put_each W i d) i m) (is ∙ e) ∙ sym (put_push W i d m) in
          let more : added d m ≡ d ++ m ∷ [] = ap (λ (b : Bool). if b then d else d ++ m ∷ []) e in
          let one : ◌≡◌ {A = ℕ} (if is_last (get_or (put_each W i d) (place m) []) i then 0 else 1) 1 = ap (λ (b : Bool). if b then 0 else 1) (is ∙ e) in
          record {
            lists = ap (λ w. watched_each w i ms) once ∙ rest.lists ∙ ap (λ r. put_each W i (all_added r ms)) (sym more);
            count = omega (arith, one, rest.count, length_push d m, ap (λ w. count_new w i ms) once, ap (λ r. length (all_added r ms)) more);
          }

pub record SameAll (W : List (List ℕ)) (i : ℕ) (fs : List Fact) : Type 0 where
  pub lists : watched W i fs ≡ put_all W i fs
  pub counts : counted W i fs ≡ sizes fs

same_all : (facts : FactList) (W : List (List ℕ)) (i : ℕ) (fs : List Fact) → length W ≡ facts.columns + 3 → IsBelow W i → AllByRecursion (IsNamed facts) fs → SameAll W i fs
same_all facts W i [] long below named = record { lists = refl; counts = refl }
same_all facts W i (f ∷ fs) long below named =
    let one = same_each W i below [] f.from tt (λ m e. omega (arith, long, place_lt facts m (all_at (is_named facts) f.from m named.0.0 e))) in
    let rest = same_all facts (put_each W i (different f.from)) (i + 1) fs (each_long W i (different f.from) ∙ long) (below_next W i (different f.from) (apart_all [] f.from tt) below) named.1 in
    let size : count_new W i f.from ≡ length (different f.from) = omega (arith, one.count) in
    record {
      lists = ap (λ w. watched w (i + 1) fs) one.lists ∙ rest.lists;
      counts = (λ j. size j ∷ counted (one.lists j) (i + 1) fs) ∙ ap (λ c. length (different f.from) ∷ c) rest.counts;
    }

abbrev pub blank : ℕ → List (List ℕ)
blank n = replicate n []

blank_long : (n : ℕ) → length (blank n) ≡ n
blank_long n = length-replicate n []

blank_below : (n : ℕ) → IsBelow (blank n) 0
blank_below n m h j k = ap (λ l. is_last l j) (get_or-replicate n (place m) [] [] (omega (arith, h, blank_long n)))

-- the facts with the members of their left sides, from lists that are all empty
pub from_blank : (facts : FactList) → AllByRecursion (IsNamed facts) facts.list → SameAll (blank (facts.columns + 3)) 0 facts.list
from_blank facts named = same_all facts (blank (facts.columns + 3)) 0 facts.list (blank_long (facts.columns + 3)) (blank_below (facts.columns + 3)) named
