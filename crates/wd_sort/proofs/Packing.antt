-- The sort of numbers with their places is the stable sort of the positions.
use Rattle.std.proofs.Common.{◌≡◌, ◌∙◌, ℕ, suc, ◌+◌, ◌*◌, ◌%◌, ◌<◌, ◌≤◌, Bool, true, false, cond, not, ◌&&◌, List, [], ◌∷◌, map, filter, get_or, length, refl, sym, ap, subst, arith, IsPermutation, Ordering, Less, Equal, Greater, eqb, ◌⊎◌, inl, inr}
use Rattle.std.specs.Prelude.{IsSorted, ⊤}
use Rattle.std.specs.List.{AllByRecursion}
use Rattle.std.specs.List.Sorted.{IsNonDecreasingBy, ties}
use Rattle.std.specs.Ordering.{is_lt, nat_cmp}
use Rattle.std.proofs.lemmas.Bool.{false≢true}
use Rattle.std.proofs.lemmas.Bool.Decides.{Decides-eqb}
use Rattle.std.proofs.lemmas.List.Sorted.{IsNonDecreasingBy-from_sort, sum_by-IsPermutation}
use Rattle.std.specs.Ordering.{ordering_reverse}
use Rattle.std.proofs.lemmas.Cmp.{ranked}
use Rattle.std.proofs.lemmas.List.{ext_get_or, get_or_default, get_or-map, length-map}
use Rattle.std.proofs.lemmas.List.Sorted.{All-permutation, IsPermutation-map}
use Rattle.std.proofs.lemmas.Nat.{mod-mul-add}
use Rattle.std.proofs.Math.Nat.{mul-le-mul_right}
use Rattle.wd_value.proofs.Perms.{Perm, Perm-all, Perm-filter, Perm-from_SameBag, Perm-sym, Perm-tail}
use Rattle.wd_value.specs.Rows.{Row, row_at}
use Rattle.wd_sort.specs.Codes.{ArePacked, IsCoding, position_in}
use Rattle.wd_sort.specs.Sorting.{IsStableSortOf, compare_rows_at}
use Rattle.wd_value.specs.declared.order.SortColumn.{SortColumn}
use Rattle.wd_value.proofs.KeyLaws.{compare_keys_total}

-- ---- lists that rise are told apart by their elements

abbrev pub Up : List ℕ → Type 0
Up [] = ⊤
Up (x ∷ xs) = AllByRecursion (λ y. x ≤ y) xs × Up xs

empty : (ys : List ℕ) → AllByRecursion (λ (y : ℕ). ⊥) ys → [] ≡ ys
empty [] a = refl
empty (y ∷ ys) a = absurd a.0

pub Up-unique : (xs ys : List ℕ) → Up xs → Up ys → Perm ℕ xs ys → xs ≡ ys
Up-unique [] ys u v p = empty ys (Perm-all (λ y. ⊥) p tt)
Up-unique (x ∷ xs) [] u v p = sym (empty (x ∷ xs) (Perm-all (λ y. ⊥) (Perm-sym p) tt))
Up-unique (x ∷ xs) (y ∷ ys) u v p =
    let low : x ≤ y = (Perm-all (λ z. x ≤ z) p (omega arith, u.0)).0 in
    let high : y ≤ x = (Perm-all (λ z. y ≤ z) (Perm-sym p) (omega arith, v.0)).0 in
    let same : y ≡ x = omega arith in
    let rest : Perm ℕ xs ys = Perm-tail eqb Decides-eqb x xs ys (subst (λ z. Perm ℕ (x ∷ xs) (z ∷ ys)) same p) in
    λ i. sym same i ∷ Up-unique xs ys u.1 v.1 rest i

-- ---- what is left of a list rises where its elements do

module _ (t : ℕ → Bool) where
  all_kept : (x y : ℕ) (xs : List ℕ) (b : Bool) → t y ≡ b → (b ≡ true → x ≤ y) → AllByRecursion (λ y. x ≤ y) (filter t xs) → AllByRecursion (λ y. x ≤ y) (filter t (y ∷ xs))
  all_kept x y xs true e h a = rw e (h refl, a)
  all_kept x y xs false e h a = rw e a

  all_filter : (x : ℕ) (xs : List ℕ) → ((j : ℕ) → j < length xs → t (get_or xs j 0) ≡ true → x ≤ get_or xs j 0) → AllByRecursion (λ y. x ≤ y) (filter t xs)
  all_filter x [] h = tt
  all_filter x (y ∷ xs) h = all_kept x y xs (t y) refl (λ e. h 0 (omega arith) e) (all_filter x xs (λ j low e. h (suc j) (omega arith) e))

  up_kept : (x : ℕ) (xs : List ℕ) (b : Bool) → t x ≡ b → (b ≡ true → AllByRecursion (λ y. x ≤ y) (filter t xs)) → Up (filter t xs) → Up (filter t (x ∷ xs))
  up_kept x xs true e h u = rw e (h refl, u)
  up_kept x xs false e h u = rw e u

  pub Up-filter : (xs : List ℕ) → ((i j : ℕ) → i < j → j < length xs → t (get_or xs i 0) ≡ true → t (get_or xs j 0) ≡ true → get_or xs i 0 ≤ get_or xs j 0) → Up (filter t xs)
  Up-filter [] h = tt
  Up-filter (x ∷ xs) h =
      up_kept x xs (t x) refl
      (λ e. all_filter x xs (λ j low f. h 0 (suc j) (omega arith) (omega arith) e f))
      (Up-filter xs (λ i j low high e f. h (suc i) (suc j) (omega arith) (omega arith) e f))

-- ---- a permutation by exchanges is one by cases

pub Perm-from_IsPermutation : (xs ys : List ℕ) → IsPermutation xs ys → Perm ℕ xs ys
Perm-from_IsPermutation xs ys p = Perm-from_SameBag eqb Decides-eqb xs ys (λ x. sym (sum_by-IsPermutation (λ y. cond (eqb x y) 1 0) xs ys p))

-- what a test leaves of a list and of its sort, where the list's own rises
pub same_left : (t : ℕ → Bool) (xs ys : List ℕ) → IsPermutation xs ys → IsSorted nat_cmp ys
    → ((i j : ℕ) → i < j → j < length xs → t (get_or xs i 0) ≡ true → t (get_or xs j 0) ≡ true → get_or xs i 0 ≤ get_or xs j 0) → filter t ys ≡ filter t xs
same_left t xs ys p sorted rises =
    let up : IsNonDecreasingBy (λ y. y) ys = IsNonDecreasingBy-from_sort (λ y. y) ys sorted in
    Up-unique (filter t ys) (filter t xs) (Up-filter t ys (λ i j low high e f. up i j 0 (omega arith) high)) (Up-filter t xs rises)
    (Perm-sym (Perm-filter t (Perm-from_IsPermutation xs ys p)))

-- ---- numbers with places

-- a number that is not above another has no greater code
code_le : (n c i c' i' : ℕ) → i < n → i' < n → c * n + i ≤ c' * n + i' → c ≤ c'
code_le n c i c' i' low low' h = by_order (dec c c')
  where
    dec : (a b : ℕ) → (a ≤ b) ⊎ (b + 1 ≤ a)
    dec a b = grind (arith)

    by_order : (c ≤ c') ⊎ (c' + 1 ≤ c) → c ≤ c'
    by_order (inl a) = a
    by_order (inr b) = let m : (c' + 1) * n ≤ c * n = mul-le-mul_right n b in absurd (omega arith)

not_above : (p q : ℕ) (o : Ordering) → o ≡ nat_cmp p q → q ≤ p → is_lt o ≡ false
not_above p q Less e h = absurd (let r : p < q = ranked p q Less e in omega arith)
not_above p q Equal e h = refl
not_above p q Greater e h = refl

tie_is_equal : (o q : Ordering) → q ≡ ordering_reverse o → not (is_lt o) && not (is_lt q) ≡ true → Equal ≡ o
tie_is_equal Less q e h = cc
tie_is_equal Equal q e h = refl
tie_is_equal Greater q e h = absurd (false≢true (sym (λ i. not (is_lt (e i))) ∙ h))

filter_step : {X Y : Type 0} (f : X → Y) (t : Y → Bool) (x : X) (xs : List X) (b : Bool) → t (f x) ≡ b → filter t (map f xs) ≡ map f (filter (λ x. t (f x)) xs) → filter t (map f (x ∷ xs)) ≡ map f (filter (λ x. t (f x)) (x ∷ xs))
filter_step f t x xs true e h = rw e (ap (λ l. f x ∷ l) h)
filter_step f t x xs false e h = rw e h

filter_of_map : {X Y : Type 0} (f : X → Y) (t : Y → Bool) (xs : List X) → filter t (map f xs) ≡ map f (filter (λ x. t (f x)) xs)
filter_of_map f t [] = refl
filter_of_map f t (x ∷ xs) = filter_step f t x xs (t (f x)) refl (filter_of_map f t xs)

-- ---- sorted numbers are a stable sort

module _ (columns : List SortColumn) (rows : List Row) (given codes : List ℕ) (long : length codes ≡ length given) (coding : IsCoding columns rows given codes) where
  abbrev n : ℕ
  n = length given

  record Packs (s : ℕ) : Type 0 where
    place : ℕ
    low : place < n
    is : s ≡ get_or codes place 0 * n + place

  abbrev at : ℕ → ℕ
  at s = position_in given s

  at_place : (s : ℕ) (p : Packs s) → at s ≡ get_or given p.place 0
  at_place s p = ap (λ k. get_or given k 0) (ap (λ k. k % n) p.is ∙ mod-mul-add (get_or codes p.place 0) n p.place p.low)

  abbrev compare : ℕ → ℕ → Ordering
  compare = compare_rows_at columns rows

  compare_codes : (s s' : ℕ) (p : Packs s) (q : Packs s') → nat_cmp (get_or codes p.place 0) (get_or codes q.place 0) ≡ compare (at s) (at s')
  compare_codes s s' p q = coding p.place q.place p.low q.low ∙ λ i. compare (sym (at_place s p) i) (sym (at_place s' q) i)

  module _ (packed : List ℕ) (are : ArePacked codes packed) where
    number_at : (k : ℕ) → k < n → get_or packed k 0 ≡ get_or codes k 0 * n + k
    number_at k low = are.each k (rw long low) ∙ ap (λ m. get_or codes k 0 * m + k) long

    abbrev packs_at : (k : ℕ) → k < n → Packs (get_or packed k 0)
    packs_at k low = record { place = k; low = low; is = number_at k low }

    as_long : length packed ≡ n
    as_long = are.long ∙ long

    all_pack : (k : ℕ) (d : ℕ) → k < length packed → Packs (get_or packed k d)
    all_pack k d low = subst Packs (get_or_default packed k 0 d low) (packs_at k (omega arith))

    given_is : given ≡ map at packed
    given_is = ext_get_or 0 given (map at packed) (sym (length-map packed at ∙ as_long))
        (λ k low. sym (get_or-map at packed k 0 0 (omega arith) ∙ at_place (get_or packed k 0) (packs_at k low)))

    -- of positions that tie with one the numbers rise with their places
    tied_rise : (x : ℕ) (i j : ℕ) → i < j → j < length packed → ties (λ p q. is_lt (compare p q)) x (at (get_or packed i 0)) ≡ true → ties (λ p q. is_lt (compare p q)) x (at (get_or packed j 0)) ≡ true → get_or packed i 0 ≤ get_or packed j 0
    tied_rise x i j low high e f =
        let total = compare_keys_total columns in
        let s = get_or packed i 0 in
        let s' = get_or packed j 0 in
        let p = packs_at i (omega arith) in
        let q = packs_at j (omega arith) in
        let equal : Equal ≡ compare x (at s) = tie_is_equal (compare x (at s)) (compare (at s) x) (total.antisymm (row_at rows (at s)) (row_at rows x)) e in
        let equal' : Equal ≡ compare x (at s') = tie_is_equal (compare x (at s')) (compare (at s') x) (total.antisymm (row_at rows (at s')) (row_at rows x)) f in
        let tie : Equal ≡ compare (at s) (at s') = equal' ∙ total.congr (row_at rows x) (row_at rows (at s)) (row_at rows (at s')) (sym equal) in
        let same : get_or codes i 0 ≡ get_or codes j 0 = ranked (get_or codes i 0) (get_or codes j 0) Equal (tie ∙ sym (compare_codes s s' p q)) in
        let is : s ≡ get_or codes j 0 * n + i = number_at i (omega arith) ∙ ap (λ c. c * n + i) same in
        let is' : s' ≡ get_or codes j 0 * n + j = number_at j (omega arith) in
        omega arith

    module _ (sorted : List ℕ) (perm : IsPermutation packed sorted) (up : IsSorted nat_cmp sorted) where
      in_order : (k : ℕ) (d : ℕ) → k + 1 < length sorted → is_lt (compare (at (get_or sorted (k + 1) d)) (at (get_or sorted k d))) ≡ false
      in_order k d high =
          let all = All-permutation Packs packed sorted perm all_pack in
          let s = get_or sorted k d in
          let s' = get_or sorted (k + 1) d in
          let p = all k d (omega arith) in
          let q = all (k + 1) d high in
          let rises : s ≤ s' = IsNonDecreasingBy-from_sort (λ y. y) sorted up k (k + 1) d (omega arith) high in
          let le : get_or codes p.place 0 ≤ get_or codes q.place 0 = code_le n (get_or codes p.place 0) p.place (get_or codes q.place 0) q.place p.low q.low (rw (← p.is, ← q.is) rises) in
          not_above (get_or codes q.place 0) (get_or codes p.place 0) (compare (at s') (at s)) (sym (compare_codes s' s q p)) le

      pub IsStableSortOf-from_codes : IsStableSortOf columns rows given (map at sorted)
      IsStableSortOf-from_codes = record {
        rearranged = subst (λ l. IsPermutation l (map at sorted)) (sym given_is) (IsPermutation-map at packed sorted perm);
        sorted = λ k d low high. (
            let long' : k + 1 < length sorted = rw (length-map sorted at) at high in
            let here = get_or-map at sorted k 0 d (omega arith) in
            let next = get_or-map at sorted (k + 1) 0 d long' in
            (λ i. is_lt (compare (next i) (here i))) ∙ in_order k 0 long'
            );
        stable = λ x.
            filter_of_map at (ties (λ p q. is_lt (compare p q)) x) sorted
            ∙ ap (map at) (same_left (λ s. ties (λ p q. is_lt (compare p q)) x (at s)) packed sorted perm up (tied_rise x))
            ∙ sym (filter_of_map at (ties (λ p q. is_lt (compare p q)) x) packed)
            ∙ ap (filter (ties (λ p q. is_lt (compare p q)) x)) (sym given_is);
      }
