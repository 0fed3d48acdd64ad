-- Rows that have numbers are told apart by them.
use Rattle.std.proofs.Common.{◌≡◌, ◌∙◌, inl, inr, ℕ, zero, suc, ◌+◌, ◌*◌, ◌/◌, ◌%◌, ◌^◌, ◌<◌, ◌≤◌, ◌↔◌, Bool, true, false, cond, List, [], ◌∷◌, ◌++◌, map, get_or, length, nat_eq, refl, sym, ap, subst, arith, Option, Some, None}
use Rattle.std.specs.Prelude.{IfSome, IsSome, option_and_then, slice_get, nat_lt, if◌then◌else◌, unwrap_or}
use Rattle.std.specs.List.{AllByRecursion}
use Rattle.std.specs.List.Sorted.{IsNonDecreasingBy}
use Rattle.std.specs.Option.{option_map_or}
use Rattle.std.proofs.lemmas.Bool.{cases_lt, false≢true}
use Rattle.std.proofs.lemmas.Bool.Decides.{Decides-eqb}
use Rattle.std.proofs.lemmas.List.{get_or_append_left, get_or_push}
use Rattle.std.proofs.lemmas.List.Elements.{All-from_get_or}
use Rattle.std.proofs.lemmas.List.Sorted.{IsNonDecreasingBy-from_sort}
use Rattle.std.proofs.lemmas.Nat.{mod-mul-add}
use Rattle.std.proofs.lemmas.Option.{slice_get_within}
use Rattle.std.proofs.Math.Nat.{mul-div_cancel}
use Rattle.wd_value.specs.Bags.{SameBag, times}
use Rattle.wd_value.specs.Rows.{Row, same_row}
use Rattle.wd_value.specs.Values.{same}
use Rattle.wd_value.specs.declared.value.Value.{Value}
use Rattle.wd_value.proofs.Perms.{Perm, Perm-all, Perm-from_SameBag, Perm-map, Perm-sym, SameBag-from_Perm, both, count_by-cons}
use Rattle.wd_value.proofs.SameLaws.{same-Decides, same_row-Decides}
use Rattle.wd_sort.proofs.Packing.{Perm-from_IsPermutation, Up, Up-unique}
use Rattle.wd_refute.specs.Numbers.{AreNumbers, AreSortedNumbers, HaveNumbers, number_from, number_of, place_in, stands_at, with_digit}
use Rattle.wd_refute.specs.declared.places.Places.{Places}

pub if_some-map : {A : Type 0} {P Q : A → Type 0} (o : Option A) → ((a : A) → P a → Q a) → IfSome o P → IfSome o Q
if_some-map None step h = h
if_some-map (Some a) step h = step a h

-- what holds of each element holds with one more
pub each_also : {A : Type 0} (d : A) (P : ℕ → A → Type 0) (xs : List A) (x : A) (n : ℕ) → length xs ≡ n → P n x → ((q : ℕ) → q < n → P q (get_or xs q d)) → (q : ℕ) → q < n + 1 → P q (get_or (xs ++ x ∷ []) q d)
each_also d P xs x n long here before q low = elim (cases_lt q n) [
  | inl l ↦ subst (P q) (sym (get_or_append_left xs (x ∷ []) d q (subst (λ m. q < m) (sym long) l))) (before q l)
  | inr past ↦ (
      let at : q ≡ n = omega arith in
      subst (P q) (sym (get_or_push xs x d q (long ∙ sym at))) (subst (λ m. P m x) (sym at) here))
]

-- ---- a place has one value

stands_there : (values : List Value) (k : ℕ) (v : Value) (o : Option Value) → slice_get values k ≡ o → option_map_or (λ found. same found v) o false ≡ true → slice_get values k ≡ Some v
stands_there values k v None e h = absurd (false≢true h)
stands_there values k v (Some w) e h = e ∙ ap Some ((same-Decides w v).0 h)

kept : (values : List Value) (v : Value) (o : Option ℕ) (k : ℕ) → option_and_then (λ place. if stands_at values place v then Some place else None) o ≡ Some k → stands_at values k v ≡ true
kept values v None k e = cc
kept values v (Some j) k e = by (stands_at values j v) refl e
  where
    by : (b : Bool) → stands_at values j v ≡ b → (if b then Some j else None) ≡ Some k → stands_at values k v ≡ true
    by true t e = subst (λ i. stands_at values i v ≡ true) (cc) t
    by false t e = cc

at_place : (column : Places) (v : Value) (k : ℕ) → place_in column v ≡ Some k → slice_get column.values.items k ≡ Some v
at_place column v k e = stands_there column.values.items k v (slice_get column.values.items k) refl (kept column.values.items v _ k e)

one_value : (column : Places) (v w : Value) (k : ℕ) → place_in column v ≡ Some k → place_in column w ≡ Some k → v ≡ w
one_value column v w k e f = let a = at_place column v k e in let b = at_place column w k f in cc

place_within : (column : Places) (v : Value) (k : ℕ) → place_in column v ≡ Some k → k < length column.values.items
place_within column v k e = slice_get_within column.values.items k v (at_place column v k e)

-- ---- a number has one row

-- what is before a digit, and the digit, are known by the number
same_digit : (m n k n' k' : ℕ) → k < m → k' < m → n * m + k ≡ n' * m + k' → k ≡ k'
same_digit m n k n' k' low low' e = sym (mod-mul-add n m k low) ∙ ap (λ x. x % m) e ∙ mod-mul-add n' m k' low'

same_before : (m n k n' k' : ℕ) → k < m → k' < m → n * m + k ≡ n' * m + k' → n ≡ n'
same_before m n k n' k' low low' e =
    let d : k ≡ k' = same_digit m n k n' k' low low' e in
    let above : 0 < m = omega arith in
    let f : n * m ≡ n' * m = omega arith in
    sym (mul-div_cancel n above) ∙ ap (λ x. x / m) f ∙ mul-div_cancel n' above

record Step (column : Places) (columns : List Places) (value : Value) (row : Row) (n m : ℕ) : Type 0 where
  place : ℕ
  placed : place_in column value ≡ Some place
  rest : number_from (n * length column.values.items + place) columns row ≡ Some m

step : (column : Places) (columns : List Places) (value : Value) (row : Row) (n m : ℕ) → number_from n (column ∷ columns) (value ∷ row) ≡ Some m → Step column columns value row n m
step column columns value row n m e = by_place (place_in column value) refl e
  where
    by_digit : (k : ℕ) → place_in column value ≡ Some k → (b : Bool) → option_and_then (λ next. number_from next columns row) (if b then Some (n * length column.values.items + k) else None) ≡ Some m → Step column columns value row n m
    by_digit k p true e = record { place = k; placed = p; rest = e }
    by_digit k p false e = cc

    by_place : (o : Option ℕ) → place_in column value ≡ o → option_and_then (λ place. option_and_then (λ next. number_from next columns row) (with_digit n (length column.values.items) place)) o ≡ Some m → Step column columns value row n m
    by_place None p e = cc
    by_place (Some k) p e = by_digit k p (nat_lt (n * length column.values.items + k) (2 ^ 128)) e

exact_from : (columns : List Places) (a b : Row) (n n' m : ℕ) → number_from n columns a ≡ Some m → number_from n' columns b ≡ Some m → (n ≡ n') × (a ≡ b)
exact_from [] [] [] n n' m e f = (cc, refl)
exact_from [] (v ∷ a) b n n' m e f = cc
exact_from [] [] (w ∷ b) n n' m e f = cc
exact_from (column ∷ columns) [] b n n' m e f = cc
exact_from (column ∷ columns) (v ∷ a) [] n n' m e f = cc
exact_from (column ∷ columns) (v ∷ a) (w ∷ b) n n' m e f =
    let s = step column columns v a n m e in
    let t = step column columns w b n' m f in
    let rest = exact_from columns a b _ _ m s.rest t.rest in
    let low = place_within column v s.place s.placed in
    let low' = place_within column w t.place t.placed in
    let digit : s.place ≡ t.place = same_digit (length column.values.items) n s.place n' t.place low low' rest.0 in
    let value : v ≡ w = one_value column v w s.place s.placed (t.placed ∙ ap Some (sym digit)) in
    (same_before (length column.values.items) n s.place n' t.place low low' rest.0, λ i. value i ∷ rest.1 i)

exact : (columns : List Places) (a b : Row) (m : ℕ) → number_of columns a ≡ Some m → number_of columns b ≡ Some m → a ≡ b
exact columns a b m e f = (exact_from columns a b 0 0 m e f).1

no_rest : (column : Places) (columns : List Places) (value : Value) (row : Row) (n : ℕ) → ((next : ℕ) → number_from next columns row ≡ None) → number_from n (column ∷ columns) (value ∷ row) ≡ None
no_rest column columns value row n rest = by_place (place_in column value)
  where
    by_digit : (b : Bool) (next : ℕ) → option_and_then (λ next. number_from next columns row) (if b then Some next else None) ≡ None
    by_digit true next = rest next
    by_digit false next = refl

    by_place : (o : Option ℕ) → option_and_then (λ place. option_and_then (λ next. number_from next columns row) (with_digit n (length column.values.items) place)) o ≡ None
    by_place None = refl
    by_place (Some k) = by_digit (nat_lt (n * length column.values.items + k) (2 ^ 128)) (n * length column.values.items + k)

-- a row with more or fewer values than columns has none
pub number_from-uneven : (columns : List Places) (row : Row) (n : ℕ) → (length columns ≡ length row → ⊥) → number_from n columns row ≡ None
number_from-uneven [] [] n h = absurd (h refl)
number_from-uneven [] (v ∷ row) n h = refl
number_from-uneven (column ∷ columns) [] n h = refl
number_from-uneven (column ∷ columns) (v ∷ row) n h = no_rest column columns v row n (λ next. number_from-uneven columns row next (λ e. h (ap suc e)))

-- ---- numbers stand as often as their rows

pub same_tests : (t u : Bool) → (t ≡ true → u ≡ true) → (u ≡ true → t ≡ true) → t ≡ u
same_tests true u f g = sym (f refl)
same_tests false true f g = g refl
same_tests false false f g = refl

-- how often a number stands in a list, if there is one
times_in : Option ℕ → List ℕ → ℕ
times_in None ns = 0
times_in (Some n) ns = times nat_eq n ns

module _ (columns : List Places) where
  same_one : (r q : Row) (n k : ℕ) → number_of columns q ≡ Some n → number_of columns r ≡ Some k → same_row r q ≡ nat_eq k n
  same_one r q n k e h = same_tests (same_row r q) (nat_eq k n)
      (λ t. (Decides-eqb k n).1 (let same : r ≡ q = (same_row-Decides r q).0 t in let f = ap (number_of columns) same in cc))
      (λ t. (same_row-Decides r q).1 (exact columns r q n (h ∙ ap Some ((Decides-eqb k n).0 t)) e))

  no_number : (r q : Row) (n : ℕ) → number_of columns q ≡ Some n → number_of columns r ≡ None → (b : Bool) → same_row r q ≡ b → b ≡ false
  no_number r q n e h true t = absurd (let same : r ≡ q = (same_row-Decides r q).0 t in let f = ap (number_of columns) same in cc)
  no_number r q n e h false t = refl

  times_number : (rows : List Row) (ns : List ℕ) → AreNumbers columns rows ns → (r : Row) (o : Option ℕ) → number_of columns r ≡ o → times same_row r rows ≡ times_in o ns
  unfolding times_in
  times_number [] [] are r None h = refl
  times_number [] [] are r (Some n) h = refl
  times_number [] (n ∷ ns) are r o h = cc
  times_number (q ∷ rows) [] are r o h = cc
  times_number (q ∷ rows) (n ∷ ns) are r None h =
      let e : number_of columns q ≡ Some n = cc in
      let rest : AreNumbers columns rows ns = cc in
      count_by-cons (same_row r) q rows ∙ (λ i. cond (no_number r q n e h (same_row r q) refl i) 1 0 + times_number rows ns rest r None h i)
  times_number (q ∷ rows) (n ∷ ns) are r (Some k) h =
      let e : number_of columns q ≡ Some n = cc in
      let rest : AreNumbers columns rows ns = cc in
      count_by-cons (same_row r) q rows ∙ (λ i. cond (same_one r q n k e h i) 1 0 + times_number rows ns rest r (Some k) h i) ∙ sym (count_by-cons (nat_eq k) n ns)

  same_rows : (rows others : List Row) (ns ms : List ℕ) → AreNumbers columns rows ns → AreNumbers columns others ms → SameBag nat_eq ns ms → SameBag same_row rows others
  unfolding times_in
  same_rows rows others ns ms are are' h r = times_number rows ns are r (number_of columns r) refl ∙ by (number_of columns r) ∙ sym (times_number others ms are' r (number_of columns r) refl)
    where
      by : (o : Option ℕ) → times_in o ns ≡ times_in o ms
      by None = refl
      by (Some n) = h n

  back : (ns : List ℕ) → map (λ (o : Option ℕ). unwrap_or o 0) (map Some ns) ≡ ns
  back [] = refl
  back (n ∷ ns) = λ i. n ∷ back ns i

  same_numbers : (rows others : List Row) (ns ms : List ℕ) → AreNumbers columns rows ns → AreNumbers columns others ms → SameBag same_row rows others → Perm ℕ ns ms
  same_numbers rows others ns ms are are' h =
      let moved : Perm (Option ℕ) (map Some ns) (map Some ms) = subst (λ l. Perm (Option ℕ) (map Some ns) l) are' (subst (λ l. Perm (Option ℕ) l (map (number_of columns) others)) are (Perm-map (number_of columns) (Perm-from_SameBag same_row same_row-Decides rows others h))) in
      subst (λ l. Perm ℕ ns l) (back ms) (subst (λ l. Perm ℕ l (map (λ (o : Option ℕ). unwrap_or o 0) (map Some ms))) (back ns) (Perm-map (λ (o : Option ℕ). unwrap_or o 0) moved))

  -- ---- sorted numbers

  above : (x : ℕ) (xs : List ℕ) → ((j : ℕ) → j < length xs → x ≤ get_or xs j 0) → AllByRecursion (λ y. x ≤ y) xs
  above x [] h = tt
  above x (y ∷ xs) h = (h 0 (omega arith), above x xs (λ j low. h (suc j) (omega arith)))

  up : (xs : List ℕ) → ((i j : ℕ) → i ≤ j → j < length xs → get_or xs i 0 ≤ get_or xs j 0) → Up xs
  up [] h = tt
  up (x ∷ xs) h = (above x xs (λ j low. h 0 (suc j) (omega arith) (omega arith)), up xs (λ i j low high. h (suc i) (suc j) (omega arith) (omega arith)))

  rises : {rows : List Row} {sorted : List ℕ} → AreSortedNumbers columns rows sorted → Up sorted
  rises {rows = rows} {sorted = sorted} s =
      let increasing : IsNonDecreasingBy (λ y. y) sorted = IsNonDecreasingBy-from_sort (λ y. y) sorted s.ordered in
      up sorted (λ i j low high. increasing i j 0 low high)

  -- rows stand equally often exactly where their sorted numbers are the same
  pub SameBag-by_numbers : (rows others : List Row) (ns ms : List ℕ) → AreSortedNumbers columns rows ns → AreSortedNumbers columns others ms → (ns ≡ ms) ↔ SameBag same_row rows others
  SameBag-by_numbers rows others ns ms s t =
      let first : Perm ℕ s.numbers ns = Perm-from_IsPermutation s.numbers ns s.each_once in
      let second : Perm ℕ t.numbers ms = Perm-from_IsPermutation t.numbers ms t.each_once in (
        λ e. same_rows rows others s.numbers t.numbers s.are t.are (SameBag-from_Perm nat_eq Decides-eqb (both (subst (λ l. Perm ℕ s.numbers l) e first) (Perm-sym second))),
        λ h. Up-unique ns ms (rises s) (rises t) (both (Perm-sym first) (both (same_numbers rows others s.numbers t.numbers s.are t.are h) second)),
      )

  -- ---- rows that stand as often as others with numbers have numbers

  have : (rows : List Row) (ns : List ℕ) → AreNumbers columns rows ns → AllByRecursion (λ row. IsSome (number_of columns row)) rows
  have [] ns are = tt
  have (q ∷ rows) [] are = cc
  have (q ∷ rows) (n ∷ ns) are = (let e : number_of columns q ≡ Some n = cc in rw e refl, have rows ns (cc))

  to_all : (P : Row → Type 0) (rows : List Row) → AllByRecursion P rows → (i : ℕ) → i < length rows → P (get_or rows i [])
  to_all P [] a i low = absurd (omega arith)
  to_all P (q ∷ rows) a zero low = a.0
  to_all P (q ∷ rows) a (suc i) low = to_all P rows a.1 i (omega arith)

  pub HaveNumbers-same : (rows others : List Row) (ns : List ℕ) → AreSortedNumbers columns rows ns → SameBag same_row rows others → HaveNumbers columns others
  HaveNumbers-same rows others ns s h =
      let some = Perm-all (λ row. IsSome (number_of columns row)) (Perm-from_SameBag same_row same_row-Decides rows others h) (have rows s.numbers s.are) in
      All-from_get_or (λ row. IsSome (number_of columns row)) others [] (to_all (λ row. IsSome (number_of columns row)) others some)
