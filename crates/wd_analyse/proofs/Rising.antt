-- Lists that rise are the same where they have the same members.
use Rattle.std.proofs.Common.{◌≡◌, ℕ, suc, ◌<◌, Bool, true, false, cond, not, ◌&&◌, ◌||◌, List, [], ◌∷◌, ◌++◌, get_or, length, map, nat_cmp, nat_eq, nat_lt, vec_items, refl, sym, ◌∙◌, ap, arith, subst}
use Rattle.std.specs.declared.alloc.Global.{Global}
use Rattle.std.specs.declared.vec.Vec.{Vec}
use Rattle.std.specs.Cmp.{both_ways}
use Rattle.std.specs.Cmp.Lexicographic.{bytes_decides, pointwise}
use Rattle.std.proofs.lemmas.List.{map-append}
use Rattle.std.proofs.lemmas.List.Folds.{list_all-append, list_any-append}
use Rattle.std.specs.List.{AllPairs, dedup, dedup_from, list_all, list_any}
use Rattle.std.specs.List.Retain.{DiffersFromLast, IsFiltered}
use Rattle.std.proofs.lemmas.List.Filters.{dedup_is}
use Rattle.std.proofs.lemmas.List.Kept.{AllPairs-from_increasing}
use Rattle.std.proofs.lemmas.List.Sorted.{list_any-IsPermutation}
use Rattle.std.proofs.lemmas.Map.Keys.{IsStrictlyIncreasing-dedup}
use Rattle.std.specs.List.Sorted.{IsPermutation, IsSorted, IsStrictlyIncreasing}
use Rattle.std.proofs.lemmas.Bool.{and_parts, eq-eqb, eqb-true, false≢true, lt-ltb, ltb-true}
use Rattle.wd_sets.specs.Sets.{is_in}
use Rattle.wd_analyse.specs.Sources.{is_tried, same_columns}
use Rattle.wd_analyse.specs.declared.tried.Tried.{Tried}
use Rattle.wd_analyse.specs.Steps.{HasTried, IsNextTried, lists_in, rises}

nat_self : (a : ℕ) → nat_eq a a ≡ true
nat_self a = eq-eqb a a refl

or_right : (a b : Bool) → b ≡ true → (a || b) ≡ true
or_right true b e = refl
or_right false b e = e

-- ---- the same members

-- each of some columns is in others
in_all : (P : ℕ → Bool) (X : List ℕ) → list_all P X ≡ true → (c : ℕ) → is_in X c ≡ true → P c ≡ true
in_all P [] a c e = absurd (false≢true e)
in_all P (x ∷ X) a c e = by (nat_eq c x) refl e (in_all P X (and_parts (P x) (list_all P X) a).1 c)
  where
    by : (b : Bool) → nat_eq c x ≡ b → (b || is_in X c) ≡ true → (is_in X c ≡ true → P c ≡ true) → P c ≡ true
    by true same f later = ap P (eqb-true c x same) ∙ (and_parts (P x) (list_all P X) a).0
    by false same f later = later f

all_in : (P : ℕ → Bool) (X : List ℕ) → ((c : ℕ) → is_in X c ≡ true → P c ≡ true) → list_all P X ≡ true
all_in P [] f = refl
all_in P (x ∷ X) f = λ i. f x (ap (λ b. b || is_in X x) (nat_self x)) i && all_in P X (λ c e. f c (or_right (nat_eq c x) (is_in X c) e)) i

members_of : (X Y : List ℕ) → same_columns X Y ≡ true → (c : ℕ) → is_in X c ≡ is_in Y c
members_of X Y e c =
    let parts = and_parts (list_all (is_in Y) X) (list_all (is_in X) Y) e in
    both_ways (is_in X c) (is_in Y c) (in_all (is_in Y) X parts.0 c) (in_all (is_in X) Y parts.1 c)

same_by : (X Y : List ℕ) → ((c : ℕ) → is_in X c ≡ is_in Y c) → same_columns X Y ≡ true
same_by X Y f = λ i. all_in (is_in Y) X (λ c e. sym (f c) ∙ e) i && all_in (is_in X) Y (λ c e. f c ∙ e) i

-- columns are the same as others by their members alone
pub same_for : (Y C X : List ℕ) → ((c : ℕ) → is_in C c ≡ is_in X c) → same_columns Y C ≡ same_columns Y X
same_for Y C X f = both_ways (same_columns Y C) (same_columns Y X)
    (λ e. same_by Y X (λ c. members_of Y C e c ∙ f c))
    (λ e. same_by Y C (λ c. members_of Y X e c ∙ sym (f c)))

-- ---- lists that rise

above_not : (a : ℕ) (X : List ℕ) → list_all (nat_lt a) X ≡ true → (c : ℕ) → is_in X c ≡ true → a < c
above_not a X e c f = ltb-true a c (in_all (nat_lt a) X e c f)

head_in : (a : ℕ) (X : List ℕ) → is_in (a ∷ X) a ≡ true
head_in a X = ap (λ b. b || is_in X a) (nat_self a)

-- a head of one is the other's, or above it
head_of : (a b : ℕ) (X : List ℕ) → list_all (nat_lt b) X ≡ true → is_in (b ∷ X) a ≡ true → nat_eq a b ≡ false → b < a
head_of a b X e f n = above_not b X e a (ap (λ t. t || is_in X a) (sym n) ∙ f)

same_heads : (a b : ℕ) (X Y : List ℕ) → list_all (nat_lt a) X ≡ true → list_all (nat_lt b) Y ≡ true → ((c : ℕ) → is_in (a ∷ X) c ≡ is_in (b ∷ Y) c) → a ≡ b
same_heads a b X Y e f same = by (nat_eq a b) refl (nat_eq b a) refl
  where
    by : (s : Bool) → nat_eq a b ≡ s → (t : Bool) → nat_eq b a ≡ t → a ≡ b
    by true h t k = eqb-true a b h
    by false h true k = sym (eqb-true b a k)
    by false h false k =
        let low = head_of a b Y f (sym (same a) ∙ head_in a X) h in
        let high = head_of b a X e (same b ∙ head_in b Y) k in
        absurd (omega (arith, low, high))

-- without their head
tail_in : (a : ℕ) (X Y : List ℕ) → list_all (nat_lt a) X ≡ true → ((c : ℕ) → is_in (a ∷ X) c ≡ is_in (a ∷ Y) c) → (c : ℕ) → is_in X c ≡ true → is_in Y c ≡ true
tail_in a X Y e same c f = by (nat_eq c a) refl
  where
    by : (t : Bool) → nat_eq c a ≡ t → is_in Y c ≡ true
    by true h = let low = above_not a X e c f in let is = eqb-true c a h in absurd (omega (arith, low, is))
    by false h = ap (λ t. t || is_in Y c) (sym h) ∙ sym (same c) ∙ or_right (nat_eq c a) (is_in X c) f

nil_cons : (b : ℕ) (Y : List ℕ) → ((c : ℕ) → is_in [] c ≡ is_in (b ∷ Y) c) → ⊥
nil_cons b Y same = false≢true (same b ∙ head_in b Y)

pub rising_same : (X Y : List ℕ) → rises X ≡ true → rises Y ≡ true → ((c : ℕ) → is_in X c ≡ is_in Y c) → X ≡ Y
rising_same [] [] r s same = refl
rising_same [] (b ∷ Y) r s same = absurd (nil_cons b Y same)
rising_same (a ∷ X) [] r s same = absurd (nil_cons a X (λ c. sym (same c)))
rising_same (a ∷ X) (b ∷ Y) r s same =
    let p = and_parts (list_all (nat_lt a) X) (rises X) r in
    let q = and_parts (list_all (nat_lt b) Y) (rises Y) s in
    let heads = same_heads a b X Y p.0 q.0 same in
    let others : (c : ℕ) → is_in (a ∷ X) c ≡ is_in (a ∷ Y) c = λ c. same c ∙ ap (λ n. is_in (n ∷ Y) c) (sym heads) in
    let high : list_all (nat_lt a) Y ≡ true = ap (λ n. list_all (nat_lt n) Y) heads ∙ q.0 in
    let tails = rising_same X Y p.1 q.1 (λ c. both_ways (is_in X c) (is_in Y c) (tail_in a X Y p.0 others c) (tail_in a Y X high (λ d. sym (others d)) c)) in
    λ i. heads i ∷ tails i

-- ---- numbers in ascending order, each once

from_increasing : (X : List ℕ) → IsStrictlyIncreasing X → rises X ≡ true
from_increasing X h = by X (AllPairs-from_increasing X h)
  where
    above : (x : ℕ) (X Y : List ℕ) → ((i : ℕ) → i < length X → x < get_or X i 0) → list_all (nat_lt x) X ≡ true
    above x [] Y f = refl
    above x (y ∷ X) Y f = λ i. lt-ltb x y (f 0 (omega arith)) i && above x X Y (λ k l. f (suc k) (omega (arith, l))) i

    by : (X : List ℕ) → AllPairs (λ a b. a < b) X → rises X ≡ true
    by [] p = refl
    by (x ∷ X) p = λ i. above x X X (λ k l. p 0 (suc k) 0 (omega arith) (omega (arith, l))) i && by X (λ j k d l m. p (suc j) (suc k) d (omega (arith, l)) (omega (arith, m))) i

once_from : (k : ℕ) (X : List ℕ) (c : ℕ) → is_in (dedup_from nat_eq k X) c ≡ is_in (k ∷ X) c
once_from k [] c = refl
once_from k (x ∷ X) c = by (nat_eq x k) refl (once_from k X c) (once_from x X c)
  where
    twice : (a b : Bool) → (a || b) ≡ (a || (a || b))
    twice true b = refl
    twice false b = refl

    by : (b : Bool) → nat_eq x k ≡ b → is_in (dedup_from nat_eq k X) c ≡ is_in (k ∷ X) c → is_in (dedup_from nat_eq x X) c ≡ is_in (x ∷ X) c
        → is_in (cond b (dedup_from nat_eq k X) (k ∷ dedup_from nat_eq x X)) c ≡ is_in (k ∷ x ∷ X) c
    by true e old new = old ∙ twice (nat_eq c k) (is_in X c) ∙ ap (λ n. nat_eq c k || (nat_eq c n || is_in X c)) (sym (eqb-true x k e))
    by false e old new = ap (λ b. nat_eq c k || b) new

once : (X : List ℕ) (c : ℕ) → is_in (dedup nat_eq X) c ≡ is_in X c
once [] c = refl
once (x ∷ X) c = once_from x X c

pub ordered_rises : (X Y : List ℕ) → IsSorted nat_cmp X → IsFiltered (DiffersFromLast nat_eq) [] X Y → rises Y ≡ true
ordered_rises X Y s f = ap rises (dedup_is nat_eq X Y f) ∙ from_increasing (dedup nat_eq X) (IsStrictlyIncreasing-dedup X s)

pub ordered_same : (W X Y : List ℕ) → IsPermutation W X → IsFiltered (DiffersFromLast nat_eq) [] X Y → (c : ℕ) → is_in Y c ≡ is_in W c
ordered_same W X Y p f c = ap (λ l. is_in l c) (dedup_is nat_eq X Y f) ∙ once X c ∙ sym (list_any-IsPermutation (nat_eq c) W X p)

-- ---- what was tried

abbrev alike : Vec ℕ Global → Vec ℕ Global → Bool
alike v w = pointwise nat_eq v.items w.items

module _ (v : Vec ℕ Global) (X : List ℕ) (r : rises v.items ≡ true) (same : (c : ℕ) → is_in v.items c ≡ is_in X c) where
  alike_same : (w : Vec ℕ Global) → rises w.items ≡ true → alike v w ≡ same_columns X w.items
  alike_same w s = both_ways (alike v w) (same_columns X w.items)
      (λ e. let is = (bytes_decides v.items w.items).0 e in same_by X w.items (λ c. sym (same c) ∙ ap (λ l. is_in l c) is))
      (λ e. (bytes_decides v.items w.items).1 (rising_same v.items w.items r s (λ c. same c ∙ members_of X w.items e c)))

  found : (lists : List (Vec ℕ Global)) → list_all rises (map vec_items lists) ≡ true → list_any (alike v) lists ≡ is_tried (map vec_items lists) X
  found [] e = refl
  found (w ∷ lists) e = let p = and_parts (rises w.items) (list_all rises (map vec_items lists)) e in λ i. alike_same w p.0 i || found lists p.1 i

  module _ (Xs : List (List ℕ)) (old new : Tried) (h : HasTried Xs old) (keys : new.lists.keys ≡ cond (list_any (alike v) old.lists.keys) old.lists.keys (old.lists.keys ++ v ∷ [])) where
    there : list_any (alike v) old.lists.keys ≡ is_tried Xs X
    there = found old.lists.keys h.rising ∙ h.same X

    pushed : lists_in old ++ v.items ∷ [] ≡ map vec_items (old.lists.keys ++ v ∷ [])
    pushed = sym (map-append vec_items old.lists.keys (v ∷ []))

    has_next : (b : Bool) → list_any (alike v) old.lists.keys ≡ b → HasTried (cond (not b) (Xs ++ X ∷ []) Xs) new
    has_next true e =
        let is : lists_in new ≡ lists_in old = ap (map vec_items) (keys ∙ ap (λ b. cond b old.lists.keys (old.lists.keys ++ v ∷ [])) e) in
        record { rising = ap (list_all rises) is ∙ h.rising; same = λ Y. ap (λ l. is_tried l Y) is ∙ h.same Y }
    has_next false e =
        let is : lists_in new ≡ lists_in old ++ v.items ∷ [] = ap (map vec_items) (keys ∙ ap (λ b. cond b old.lists.keys (old.lists.keys ++ v ∷ [])) e) ∙ sym pushed in
        record {
          rising = ap (list_all rises) is ∙ list_all-append rises (lists_in old) (v.items ∷ []) ∙ (λ i. h.rising i && (r i && true));
          same = λ Y. ap (λ l. is_tried l Y) is ∙ list_any-append (same_columns Y) (lists_in old) (v.items ∷ []) ∙ (λ i. h.same Y i || (same_for Y v.items X same i || false)) ∙ sym (list_any-append (same_columns Y) Xs (X ∷ []));
        }

    pub next_tried : (fresh : Bool) → fresh ≡ not (list_any (alike v) old.lists.keys) → IsNextTried Xs X fresh new
    next_tried fresh e = record {
      test = e ∙ ap not there;
      has = subst (λ b. HasTried (cond b (Xs ++ X ∷ []) Xs) new) (sym e) (has_next (list_any (alike v) old.lists.keys) refl);
    }
