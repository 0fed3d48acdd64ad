-- Along a sorted list, what stands before an element, and what ties with it.
use Rattle.std.proofs.Common.{◌≡◌, ℕ, zero, suc, ◌+◌, ◌-◌, ◌<◌, ◌≤◌, Bool, true, false, cond, not, List, [], ◌∷◌, filter, map, take, drop, get_or, length, count_by, refl, sym, ◌∙◌, ap, arith, Ordering, Less, Equal, Greater, is_gt, zero-add}
use Rattle.std.specs.Prelude.{IsSorted}
use Rattle.std.specs.List.{AllByRecursion}
use Rattle.std.specs.Cmp.{IsTotalOrder}
use Rattle.std.specs.Ordering.{is_eq, is_lt, ordering_reverse}
use Rattle.std.proofs.lemmas.Cmp.{alike_right, on_total}
use Rattle.std.proofs.lemmas.List.{get_or-take, get_or-drop, length-drop, length-take-le}
use Rattle.std.proofs.lemmas.List.Sorted.{ranks_by, sorted_far}
use Rattle.std.proofs.lemmas.List.Sums.{count_by-le-length, sum_by-take-drop}
use Rattle.wd_value.proofs.Perms.{count_by-cons}
use Rattle.wd_plan.proofs.Sorted.{Rising}
use Rattle.wd_value.specs.declared.order.SortColumn.{SortColumn}
use Rattle.wd_sort.specs.Sorting.{compare_rows_at}
use Rattle.wd_value.proofs.KeyLaws.{compare_keys_total}
use Rattle.wd_value.specs.Rows.{Row, row_at}
use Rattle.wd_partition.specs.Runs.{ends_at, starts_at}

count_all : (t : ℕ → Bool) (xs : List ℕ) → ((k : ℕ) → k < length xs → t (get_or xs k 0) ≡ true) → count_by t xs ≡ length xs
count_all t [] h = refl
count_all t (x ∷ xs) h =
    let rest = count_all t xs (λ k l. h (suc k) (omega arith)) in
    count_by-cons t x xs ∙ ap (λ b. cond {A = ℕ} b 1 0 + count_by t xs) (h 0 (omega arith)) ∙ omega arith

count_none : (t : ℕ → Bool) (xs : List ℕ) → ((k : ℕ) → k < length xs → t (get_or xs k 0) ≡ false) → count_by t xs ≡ 0
count_none t [] h = refl
count_none t (x ∷ xs) h =
    let rest = count_none t xs (λ k l. h (suc k) (omega arith)) in
    count_by-cons t x xs ∙ ap (λ b. cond {A = ℕ} b 1 0 + count_by t xs) (h 0 (omega arith)) ∙ omega arith

-- a test that the elements before i pass, and none from i on
count_split : (t : ℕ → Bool) (xs : List ℕ) (i : ℕ) → i ≤ length xs → ((k : ℕ) → k < i → t (get_or xs k 0) ≡ true) → ((k : ℕ) → i ≤ k → k < length xs → t (get_or xs k 0) ≡ false) → count_by t xs ≡ i
count_split t xs i within passes fails =
    let front : count_by t (take i xs) ≡ length (take i xs) = count_all t (take i xs) (λ k l. let m : k < i = rw (length-take-le i xs within) at l in ap t (get_or-take i xs k 0 m) ∙ passes k m) in
    let back : count_by t (drop i xs) ≡ 0 = count_none t (drop i xs) (λ k l. let m : i + k < length xs = omega (arith, length-drop i xs) in ap t (get_or-drop i xs k 0) ∙ fails (i + k) (omega arith) m) in
    let whole : count_by t (take i xs) + count_by t (drop i xs) ≡ count_by t xs = sum_by-take-drop (λ x. cond {A = ℕ} (t x) 1 0) xs i in
    let long : length (take i xs) ≡ i = length-take-le i xs within in
    omega arith

-- no more pass than stand before i, and no fewer
count_low : (t : ℕ → Bool) (xs : List ℕ) (i : ℕ) → i ≤ length xs → ((k : ℕ) → i ≤ k → k < length xs → t (get_or xs k 0) ≡ false) → count_by t xs ≤ i
count_low t xs i within fails =
    let front = count_by-le-length t (take i xs) in
    let back : count_by t (drop i xs) ≡ 0 = count_none t (drop i xs) (λ k l. let m : i + k < length xs = omega (arith, length-drop i xs) in ap t (get_or-drop i xs k 0) ∙ fails (i + k) (omega arith) m) in
    let whole : count_by t (take i xs) + count_by t (drop i xs) ≡ count_by t xs = sum_by-take-drop (λ x. cond {A = ℕ} (t x) 1 0) xs i in
    let long : length (take i xs) ≡ i = length-take-le i xs within in
    omega arith

count_high : (t : ℕ → Bool) (xs : List ℕ) (i : ℕ) → i ≤ length xs → ((k : ℕ) → k < i → t (get_or xs k 0) ≡ true) → i ≤ count_by t xs
count_high t xs i within passes =
    let front : count_by t (take i xs) ≡ length (take i xs) = count_all t (take i xs) (λ k l. let m : k < i = rw (length-take-le i xs within) at l in ap t (get_or-take i xs k 0 m) ∙ passes k m) in
    let whole : count_by t (take i xs) + count_by t (drop i xs) ≡ count_by t xs = sum_by-take-drop (λ x. cond {A = ℕ} (t x) 1 0) xs i in
    let long : length (take i xs) ≡ i = length-take-le i xs within in
    omega arith

module _ (R : ℕ → ℕ → Ordering) (o : IsTotalOrder R) where
  -- ---- the order

  is_lt_Less : (p : Ordering) → is_lt p ≡ true → p ≡ Less
  is_lt_Less Less e = refl
  is_lt_Less Equal e = cc
  is_lt_Less Greater e = cc

  Less_first : (a b : ℕ) (p : Ordering) → R a b ≡ p → is_lt (R b a) ≡ false → is_eq (R a b) ≡ false → R a b ≡ Less
  Less_first a b Less e f g = e
  Less_first a b Equal e f g = absurd (let h : is_eq (R a b) ≡ true = ap is_eq e in cc)
  Less_first a b Greater e f g = absurd (let h : is_lt (R b a) ≡ true = ap is_lt (o.antisymm b a ∙ ap ordering_reverse e) in cc)

  le_lt : (a b c : ℕ) (p : Ordering) → R a b ≡ p → is_lt (R b a) ≡ false → R b c ≡ Less → R a c ≡ Less
  le_lt a b c Less e f g = o.trans a b c e g
  le_lt a b c Equal e f g = o.congr a b c e ∙ g
  le_lt a b c Greater e f g = absurd (let h : is_lt (R b a) ≡ true = ap is_lt (o.antisymm b a ∙ ap ordering_reverse e) in cc)

  lt_le : (a b c : ℕ) (p : Ordering) → R b c ≡ p → R a b ≡ Less → is_lt (R c b) ≡ false → R a c ≡ Less
  lt_le a b c Less e g f = o.trans a b c g e
  lt_le a b c Equal e g f = sym (alike_right o b c a e) ∙ g
  lt_le a b c Greater e g f = absurd (let h : is_lt (R c b) ≡ true = ap is_lt (o.antisymm c b ∙ ap ordering_reverse e) in cc)

  not_gt : (a b : ℕ) (p : Ordering) → R a b ≡ p → is_lt (R b a) ≡ false → is_gt (R a b) ≡ false
  not_gt a b Less e f = ap is_gt e
  not_gt a b Equal e f = ap is_gt e
  not_gt a b Greater e f = absurd (let h : is_lt (R b a) ≡ true = ap is_lt (o.antisymm b a ∙ ap ordering_reverse e) in cc)

  is_eq_Equal : (p : Ordering) → is_eq p ≡ true → p ≡ Equal
  is_eq_Equal Less e = cc
  is_eq_Equal Equal e = refl
  is_eq_Equal Greater e = cc

  -- ---- elements that tie begin and end alike

  pub same_start : (xs : List ℕ) (p q : ℕ) → is_eq (R p q) ≡ true → starts_at R xs p ≡ starts_at R xs q
  same_start xs p q e = λ i. count_by (λ z. is_lt (alike_right o p q z (is_eq_Equal (R p q) e) i)) xs

  pub same_end : (xs : List ℕ) (p q : ℕ) → is_eq (R p q) ≡ true → ends_at R xs p ≡ ends_at R xs q
  same_end xs p q e = λ i. count_by (λ z. not (is_gt (alike_right o p q z (is_eq_Equal (R p q) e) i))) xs

  module _ (xs : List ℕ) (sorted : IsSorted R xs) where
    far : (i j : ℕ) → i ≤ j → j < length xs → is_lt (R (get_or xs j 0) (get_or xs i 0)) ≡ false
    far i j l within = sorted_far (λ x y. is_lt (R x y)) (ranks_by o (λ (p : ℕ). p)) xs sorted i j 0 l within

    -- an element before which another run ends begins one
    front : (i : ℕ) → i < length xs → ((k : ℕ) → k + 1 ≡ i → is_eq (R (get_or xs k 0) (get_or xs i 0)) ≡ false) → (k : ℕ) → k < i → is_lt (R (get_or xs k 0) (get_or xs i 0)) ≡ true
    front zero within fresh k l = absurd (omega arith)
    front (suc m) within fresh k l =
        let a = get_or xs k 0 in
        let b = get_or xs m 0 in
        let c = get_or xs (suc m) 0 in
        let less : R b c ≡ Less = Less_first b c (R b c) refl (far m (suc m) (omega arith) within) (fresh m (omega arith)) in
        ap is_lt (le_lt a b c (R a b) refl (far k m (omega arith) (omega arith)) less)

    pub start_here : (i : ℕ) → i < length xs → ((k : ℕ) → k + 1 ≡ i → is_eq (R (get_or xs k 0) (get_or xs i 0)) ≡ false) → starts_at R xs (get_or xs i 0) ≡ i
    start_here i within fresh =
        count_split (λ q. is_lt (R q (get_or xs i 0))) xs i (omega arith) (front i within fresh) (λ k l m. far i k l m)

    -- one after which another run begins ends one
    back : (i : ℕ) → i < length xs → (i + 1 < length xs → is_eq (R (get_or xs i 0) (get_or xs (i + 1) 0)) ≡ false) → (k : ℕ) → i + 1 ≤ k → k < length xs → not (is_gt (R (get_or xs k 0) (get_or xs i 0))) ≡ false
    back i within fresh k l m =
        let a = get_or xs i 0 in
        let b = get_or xs (i + 1) 0 in
        let c = get_or xs k 0 in
        let long : i + 1 < length xs = omega arith in
        let less : R a b ≡ Less = Less_first a b (R a b) refl (far i (i + 1) (omega arith) long) (fresh long) in
        ap (λ p. not (is_gt p)) (o.antisymm c a ∙ ap ordering_reverse (lt_le a b c (R b c) refl less (far (i + 1) k l m)))

    pub end_here : (i : ℕ) → i < length xs → (i + 1 < length xs → is_eq (R (get_or xs i 0) (get_or xs (i + 1) 0)) ≡ false) → ends_at R xs (get_or xs i 0) ≡ i + 1
    end_here i within fresh =
        count_split (λ q. not (is_gt (R q (get_or xs i 0)))) xs (i + 1) (omega arith)
        (λ k l. ap not (not_gt (get_or xs k 0) (get_or xs i 0) (R (get_or xs k 0) (get_or xs i 0)) refl (far k i (omega arith) within)))
        (back i within fresh)

    pub start_within : (i : ℕ) → i < length xs → starts_at R xs (get_or xs i 0) ≤ i
    start_within i within = count_low (λ q. is_lt (R q (get_or xs i 0))) xs i (omega arith) (λ k l m. far i k l m)

    pub end_over : (i : ℕ) → i < length xs → i < ends_at R xs (get_or xs i 0)
    end_over i within =
        let h : i + 1 ≤ ends_at R xs (get_or xs i 0) = count_high (λ q. not (is_gt (R q (get_or xs i 0)))) xs (i + 1) (omega arith) (λ k l. ap not (not_gt (get_or xs k 0) (get_or xs i 0) (R (get_or xs k 0) (get_or xs i 0)) refl (far k i (omega arith) within))) in
        omega arith

  -- ---- the elements that tie with one are a range

  abbrev NotLess : ℕ → ℕ → Type 0
  NotLess a b = is_lt (R b a) ≡ false

  all_far : (x : ℕ) (xs : List ℕ) → ((j : ℕ) → j < length xs → NotLess x (get_or xs j 0)) → AllByRecursion (NotLess x) xs
  all_far x [] h = tt
  all_far x (y ∷ xs) h = (h 0 (omega arith), all_far x xs (λ j l. h (suc j) (omega arith)))

  rising_far : (xs : List ℕ) → ((i j : ℕ) → i < j → j < length xs → NotLess (get_or xs i 0) (get_or xs j 0)) → Rising NotLess xs
  rising_far [] h = tt
  rising_far (x ∷ xs) h = (all_far x xs (λ j l. h 0 (suc j) (omega arith) (omega arith)), rising_far xs (λ i j l m. h (suc i) (suc j) (omega arith) (omega arith)))

  pub rising : (xs : List ℕ) → IsSorted R xs → Rising NotLess xs
  rising xs sorted = rising_far xs (λ i j l m. far xs sorted i j (omega arith) m)

  none_before : (x y : ℕ) (xs : List ℕ) → is_lt (R y x) ≡ false → AllByRecursion (NotLess y) xs → starts_at R xs x ≡ 0
  none_before x y [] e a = refl
  none_before x y (z ∷ xs) e a =
      count_by-cons (λ q. is_lt (R q x)) z xs
      ∙ ap (λ b. cond {A = ℕ} b 1 0 + starts_at R xs x) (le_not (R z x) refl)
      ∙ zero-add (starts_at R xs x) ∙ none_before x y xs e a.1
    where
      le_not : (p : Ordering) → R z x ≡ p → is_lt (R z x) ≡ false
      le_not Less f = absurd (let g : R y x ≡ Less = le_lt y z x (R y z) refl a.0 f in let h : is_lt (R y x) ≡ true = ap is_lt g in cc)
      le_not Equal f = ap is_lt f
      le_not Greater f = ap is_lt f

  none_through : (x y : ℕ) (xs : List ℕ) → R x y ≡ Less → AllByRecursion (NotLess y) xs → ends_at R xs x ≡ 0
  none_through x y [] e a = refl
  none_through x y (z ∷ xs) e a =
      count_by-cons (λ q. not (is_gt (R q x))) z xs
      ∙ ap (λ b. cond {A = ℕ} b 1 0 + ends_at R xs x) (ap (λ p. not (is_gt p)) (o.antisymm z x ∙ ap ordering_reverse (lt_le x y z (R y z) refl e a.0)))
      ∙ zero-add (ends_at R xs x) ∙ none_through x y xs e a.1

  range_step : (x y : ℕ) (xs : List ℕ) (p : Ordering) → R y x ≡ p → AllByRecursion (NotLess y) xs → filter (λ q. is_eq (R x q)) xs ≡ take (ends_at R xs x - starts_at R xs x) (drop (starts_at R xs x) xs)
      → filter (λ q. is_eq (R x q)) (y ∷ xs) ≡ take (ends_at R (y ∷ xs) x - starts_at R (y ∷ xs) x) (drop (starts_at R (y ∷ xs) x) (y ∷ xs))
  range_step x y xs Less e a h =
      let back : is_eq (R x y) ≡ false = ap is_eq (o.antisymm x y ∙ ap ordering_reverse e) in
      let s : starts_at R (y ∷ xs) x ≡ suc (starts_at R xs x) = count_by-cons (λ q. is_lt (R q x)) y xs ∙ ap (λ b. cond {A = ℕ} (is_lt b) 1 0 + starts_at R xs x) e ∙ omega arith in
      let t : ends_at R (y ∷ xs) x ≡ suc (ends_at R xs x) = count_by-cons (λ q. not (is_gt (R q x))) y xs ∙ ap (λ b. cond {A = ℕ} (not (is_gt b)) 1 0 + ends_at R xs x) e ∙ omega arith in
      let n : suc (ends_at R xs x) - suc (starts_at R xs x) ≡ ends_at R xs x - starts_at R xs x = omega arith in
      ap (λ b. cond b (y ∷ filter (λ q. is_eq (R x q)) xs) (filter (λ q. is_eq (R x q)) xs)) back ∙ h
      ∙ sym ((λ i. take (t i - s i) (drop (s i) (y ∷ xs))) ∙ ap (λ m. take m (drop (starts_at R xs x) xs)) n)
  range_step x y xs Equal e a h =
      let here : is_eq (R x y) ≡ true = ap is_eq (o.antisymm x y ∙ ap ordering_reverse e) in
      let none : starts_at R xs x ≡ 0 = none_before x y xs (ap is_lt e) a in
      let s : starts_at R (y ∷ xs) x ≡ 0 = count_by-cons (λ q. is_lt (R q x)) y xs ∙ ap (λ b. cond {A = ℕ} (is_lt b) 1 0 + starts_at R xs x) e ∙ zero-add (starts_at R xs x) ∙ none in
      let t : ends_at R (y ∷ xs) x ≡ suc (ends_at R xs x) = count_by-cons (λ q. not (is_gt (R q x))) y xs ∙ ap (λ b. cond {A = ℕ} (not (is_gt b)) 1 0 + ends_at R xs x) e ∙ omega arith in
      let n : suc (ends_at R xs x) - 0 ≡ suc (ends_at R xs x - 0) = omega arith in
      ap (λ b. cond b (y ∷ filter (λ q. is_eq (R x q)) xs) (filter (λ q. is_eq (R x q)) xs)) here
      ∙ ap (λ l. y ∷ l) (h ∙ (λ i. take (ends_at R xs x - none i) (drop (none i) xs)))
      ∙ sym ((λ i. take (t i - s i) (drop (s i) (y ∷ xs))) ∙ ap (λ m. take m (y ∷ xs)) n)
  range_step x y xs Greater e a h =
      let less : R x y ≡ Less = o.antisymm x y ∙ ap ordering_reverse e in
      let back : is_eq (R x y) ≡ false = ap is_eq less in
      let none : ends_at R xs x ≡ 0 = none_through x y xs less a in
      let t : ends_at R (y ∷ xs) x ≡ 0 = count_by-cons (λ q. not (is_gt (R q x))) y xs ∙ ap (λ b. cond {A = ℕ} (not (is_gt b)) 1 0 + ends_at R xs x) e ∙ zero-add (ends_at R xs x) ∙ none in
      let m : ends_at R xs x - starts_at R xs x ≡ 0 = omega arith in
      let n : ends_at R (y ∷ xs) x - starts_at R (y ∷ xs) x ≡ 0 = omega arith in
      ap (λ b. cond b (y ∷ filter (λ q. is_eq (R x q)) xs) (filter (λ q. is_eq (R x q)) xs)) back ∙ h
      ∙ ap (λ k. take k (drop (starts_at R xs x) xs)) m ∙ sym (ap (λ k. take k (drop (starts_at R (y ∷ xs) x) (y ∷ xs))) n)

  pub tied_range : (x : ℕ) (xs : List ℕ) → Rising NotLess xs → filter (λ q. is_eq (R x q)) xs ≡ take (ends_at R xs x - starts_at R xs x) (drop (starts_at R xs x) xs)
  tied_range x [] h = refl
  tied_range x (y ∷ xs) h = range_step x y xs (R y x) refl h.0 (tied_range x xs h.1)

-- ---- by the columns of rows

pub rows_total : (columns : List SortColumn) (rows : List Row) → IsTotalOrder (compare_rows_at columns rows)
rows_total columns rows = on_total (row_at rows) (compare_keys_total columns)

pub mapped : (f : ℕ → ℕ) (xs ys : List ℕ) → length ys ≡ length xs → ((k : ℕ) → k < length xs → get_or ys k 0 ≡ f (get_or xs k 0)) → ys ≡ map f xs
mapped f [] [] e h = refl
mapped f [] (y ∷ ys) e h = absurd (omega arith)
mapped f (x ∷ xs) [] e h = absurd (omega arith)
mapped f (x ∷ xs) (y ∷ ys) e h =
    let head : y ≡ f x = h 0 (omega arith) in
    let tail = mapped f xs ys (omega arith) (λ k l. h (suc k) (omega arith)) in
    λ i. head i ∷ tail i
