-- The positions at which sorted columns hold values stand side by side, in the order of the rows.
use Rattle.std.proofs.Common.{◌≡◌, ℕ, ◌+◌, ◌-◌, ◌<◌, ◌≤◌, Bool, true, false, cond, not, ◌&&◌, ◌||◌, List, [], ◌∷◌, ◌++◌, All, map, filter, take, drop, length, get_or, refl, sym, ap, subst, ◌∙◌, arith, Ordering, Less, Equal, Greater}
use Rattle.std.specs.List.{AllByRecursion}
use Rattle.std.specs.List.Sorted.{IsNonDecreasingBy, ties}
use Rattle.std.specs.Ordering.{is_eq, is_lt, ordering_index, ordering_reverse, ordering_then}
use Rattle.std.proofs.lemmas.Bool.{false≢true}
use Rattle.std.proofs.lemmas.List.{append-nil, get_or_default, get_or-take, get_or-drop, length-take, length-drop, take-append-drop}
use Rattle.std.proofs.lemmas.List.Elements.{All-head, All-tail, filter-append, filter_agree, filter_passes, All-from_recursion}
use Rattle.std.proofs.lemmas.List.Sorted.{All-permutation, IsPermutation-sym, searchable_from_sorted}
use Rattle.wd_value.specs.declared.value.Value.{Value}
use Rattle.wd_value.specs.declared.value.Value.TheVariants.{Null, Int, Text, Bool as Truth}
use Rattle.wd_value.specs.Bags.{positions}
use Rattle.wd_value.specs.Keys.{compare_keys}
use Rattle.wd_value.specs.Order.{compare}
use Rattle.wd_value.specs.Rows.{Row, column_of, row_at, rows_at}
use Rattle.wd_plan.proofs.Parts.{map_filter}
use Rattle.wd_plan.specs.declared.expression.ComparisonOp.TheVariants as op
use Rattle.wd_plan.specs.Expressions.{comparison, is_null, is_true}
use Rattle.wd_sort.specs.Sorting.{compare_rows_at}
use Rattle.wd_join.specs.declared.matching.JoinColumns.{JoinColumns}
use Rattle.wd_column_store.proofs.Copied.{all_rows}
use Rattle.wd_steps.specs.Repeats.{compare_rows}
use Rattle.wd_join.specs.Matching.{AreBefore, IsEnd, IsSortedBy, IsAgreeingRange, agree, ascending, compare_in, compare_sides, is_before, lacks_key, left_keys, right_keys}
use Rattle.wd_join.proofs.Deciding.{eq_turned}
use Rattle.wd_steps.proofs.Occurrences.{compare_rows-exact, compare_rows_total}

-- ---- lists of which all elements pass, or none

pub filter_all : {X : Type 0} (t : X → Bool) (xs : List X) → All (λ x. t x ≡ true) xs → filter t xs ≡ xs
filter_all t [] a = refl
filter_all t (x ∷ xs) a =
    let yes = All-head (λ x. t x ≡ true) x xs a in
    let rest = filter_all t xs (All-tail (λ x. t x ≡ true) x xs a) in
    ap (λ b. cond b (x ∷ filter t xs) (filter t xs)) yes ∙ ap (λ l. x ∷ l) rest

pub filter_none : {X : Type 0} (t : X → Bool) (xs : List X) → All (λ x. t x ≡ false) xs → filter t xs ≡ []
filter_none t [] a = refl
filter_none t (x ∷ xs) a =
    let no = All-head (λ x. t x ≡ false) x xs a in
    let rest = filter_none t xs (All-tail (λ x. t x ≡ false) x xs a) in
    ap (λ b. cond b (x ∷ filter t xs) (filter t xs)) no ∙ rest

none_step : {X : Type 0} (t : X → Bool) (x : X) (xs : List X) (b : Bool) → t x ≡ b → filter t (x ∷ xs) ≡ [] → (t x ≡ false) × (filter t xs ≡ [])
none_step t x xs false e h = (e, sym (ap (λ b. cond b (x ∷ filter t xs) (filter t xs)) e) ∙ h)
none_step t x xs true e h = absurd (let bad : x ∷ filter t xs ≡ [] = sym (ap (λ b. cond b (x ∷ filter t xs) (filter t xs)) e) ∙ h in let long = ap length bad in omega arith)

none_pass : {X : Type 0} (t : X → Bool) (xs : List X) → filter t xs ≡ [] → AllByRecursion (λ x. t x ≡ false) xs
none_pass t [] h = tt
none_pass t (x ∷ xs) h = let s = none_step t x xs (t x) refl h in (s.0, none_pass t xs s.1)

-- ---- orders

exactly : (o : Ordering) → is_eq o ≡ true → o ≡ Equal
exactly Less h = absurd (false≢true h)
exactly Equal h = refl
exactly Greater h = absurd (false≢true h)

tie_eq : (o : Ordering) → (not (is_lt (ordering_reverse o)) && not (is_lt o)) ≡ is_eq o
tie_eq Less = refl
tie_eq Equal = refl
tie_eq Greater = refl

then_eq : (o p : Ordering) → is_eq (ordering_then o p) ≡ (is_eq o && is_eq p)
then_eq Less p = refl
then_eq Equal p = refl
then_eq Greater p = refl

less_no : (o : Ordering) → is_before false o ≡ true → is_eq o ≡ false
less_no Less h = refl
less_no Equal h = absurd (false≢true h)
less_no Greater h = refl

greater_no : (o : Ordering) → is_before true o ≡ false → is_eq o ≡ false
greater_no Less h = absurd (false≢true (sym h))
greater_no Equal h = absurd (false≢true (sym h))
greater_no Greater h = refl

between : (o : Ordering) → is_before false o ≡ false → is_before true o ≡ true → is_eq o ≡ true
between Less h g = absurd (false≢true (sym h))
between Equal h g = refl
between Greater h g = absurd (false≢true g)

-- a row that is before another also is where ties count too
before_too : (o : Ordering) → is_before false o ≡ true → is_before true o ≡ true
before_too Less h = refl
before_too Equal h = absurd (false≢true h)
before_too Greater h = absurd (false≢true h)

-- what stands after a row that is not before is not before either
stays_after : (too : Bool) (o p : Ordering) → ordering_index o ≤ ordering_index p → is_before too o ≡ false → is_before too p ≡ false
stays_after too Less p up h = absurd (false≢true (sym h))
stays_after true Equal p up h = absurd (false≢true (sym h))
stays_after false Equal Less up h = absurd (let low : 1 ≤ 0 = up in omega arith)
stays_after false Equal Equal up h = refl
stays_after false Equal Greater up h = refl
stays_after too Greater Less up h = absurd (let low : 2 ≤ 0 = up in omega arith)
stays_after too Greater Equal up h = absurd (let low : 2 ≤ 1 = up in omega arith)
stays_after too Greater Greater up h = h

-- ---- equal values tie, and no others do

truth : (b : Bool) → b ≡ is_true (Truth b)
truth true = refl
truth false = refl

has_is : (v w : Value) → is_null v ≡ false → is_eq (compare ascending w v) ≡ is_true (comparison op.Equal v w)
has_is Null w h = absurd (false≢true (sym h))
has_is (Int m) Null h = refl
has_is (Int m) (Int n) h = eq_turned (Int n) (Int m) ∙ truth _
has_is (Int m) (Text t) h = eq_turned (Text t) (Int m) ∙ truth _
has_is (Int m) (Truth b) h = eq_turned (Truth b) (Int m) ∙ truth _
has_is (Text s) Null h = refl
has_is (Text s) (Int n) h = eq_turned (Int n) (Text s) ∙ truth _
has_is (Text s) (Text t) h = eq_turned (Text t) (Text s) ∙ truth _
has_is (Text s) (Truth b) h = eq_turned (Truth b) (Text s) ∙ truth _
has_is (Truth p) Null h = refl
has_is (Truth p) (Int n) h = eq_turned (Int n) (Truth p) ∙ truth _
has_is (Truth p) (Text t) h = eq_turned (Text t) (Truth p) ∙ truth _
has_is (Truth p) (Truth b) h = eq_turned (Truth b) (Truth p) ∙ truth _

null_has : (v w : Value) → is_null v ≡ true → is_true (comparison op.Equal v w) ≡ false
null_has Null w h = refl
null_has (Int m) w h = absurd (false≢true h)
null_has (Text s) w h = absurd (false≢true h)
null_has (Truth p) w h = absurd (false≢true h)

-- ---- the values in several columns

module _ (columns : List JoinColumns) where
  abbrev pub left_key : Row → List Value
  left_key l = map (λ c. column_of l c.left) columns

  abbrev pub right_key : Row → List Value
  right_key r = map (λ c. column_of r c.right) columns

pub sides_are : (columns : List JoinColumns) (l r : Row) → compare_sides columns l r ≡ compare_rows (right_key columns r) (left_key columns l)
sides_are [] l r = refl
sides_are (c ∷ columns) l r = ap (ordering_then (compare_in c l r)) (sides_are columns l r)

keys_are-right : (columns : List JoinColumns) (a b : Row) → compare_keys (right_keys columns) a b ≡ compare_rows (right_key columns a) (right_key columns b)
keys_are-right [] a b = refl
keys_are-right (c ∷ columns) a b = ap (ordering_then (compare ascending (column_of a c.right) (column_of b c.right))) (keys_are-right columns a b)

pub keys_are-left : (columns : List JoinColumns) (a b : Row) → compare_keys (left_keys columns) a b ≡ compare_rows (left_key columns a) (left_key columns b)
keys_are-left [] a b = refl
keys_are-left (c ∷ columns) a b = ap (ordering_then (compare ascending (column_of a c.left) (column_of b c.left))) (keys_are-left columns a b)

-- without NULL the rows that tie agree
or_no : (b c : Bool) → (b || c) ≡ false → (b ≡ false) × (c ≡ false)
or_no true c h = absurd (false≢true (sym h))
or_no false c h = (refl, h)

tie_agrees : (columns : List JoinColumns) (l r : Row) → lacks_key columns l ≡ false → is_eq (compare_sides columns l r) ≡ agree columns l r
tie_agrees [] l r h = refl
tie_agrees (c ∷ columns) l r h =
    let parts = or_no (is_null (column_of l c.left)) (lacks_key columns l) h in
    let first = has_is (column_of l c.left) (column_of r c.right) parts.0 in
    let rest = tie_agrees columns l r parts.1 in
    then_eq (compare_in c l r) (compare_sides columns l r) ∙ (λ i. first i && rest i)

-- NULL equals nothing
none_agrees : (columns : List JoinColumns) (l r : Row) → lacks_key columns l ≡ true → agree columns l r ≡ false
none_agrees [] l r h = absurd (false≢true h)
none_agrees (c ∷ columns) l r h = by (is_null (column_of l c.left)) refl (none_agrees columns l r)
  where
    here : Bool
    here = is_true (comparison op.Equal (column_of l c.left) (column_of r c.right))

    no_more : (b : Bool) → (b && false) ≡ false
    no_more true = refl
    no_more false = refl

    by : (b : Bool) → is_null (column_of l c.left) ≡ b → (lacks_key columns l ≡ true → agree columns l r ≡ false) → agree (c ∷ columns) l r ≡ false
    by true is rest = ap (λ b. b && agree columns l r) (null_has (column_of l c.left) (column_of r c.right) is)
    by false is rest = ap (λ b. here && b) (rest (sym (ap (λ b. b || lacks_key columns l) is) ∙ h)) ∙ no_more here

module _ (columns : List JoinColumns) (rows : List Row) (order : List ℕ) (l : Row) where
  abbrev place : ℕ → Ordering
  place p = compare_sides columns l (row_at rows p)

  abbrev key_at : ℕ → List Value
  key_at p = right_key columns (row_at rows p)

  rises : IsSortedBy (right_keys columns) rows order → IsNonDecreasingBy (λ p. ordering_index (compare_rows (key_at p) (left_key columns l))) order
  rises sorted = searchable_from_sorted compare_rows_total key_at order (left_key columns l) (λ k d low high. sym (ap is_lt (keys_are-right columns (row_at rows (get_or order (k + 1) d)) (row_at rows (get_or order k d)))) ∙ sorted.sorted k d low high)

  -- the first that is not before ends those that are
  pub IsEnd-here : IsSortedBy (right_keys columns) rows order → (too : Bool) (n : ℕ) → n < length order → AreBefore too columns l rows order n → is_before too (place (get_or order n 0)) ≡ false → IsEnd too columns l rows order n
  IsEnd-here sorted too n h before last = record {
    within = omega arith;
    before = before;
    after = λ k low high. (
        let up = rises sorted n k 0 low high in
        ap (is_before too) (sides_are columns l (row_at rows (get_or order k 0)))
        ∙ stays_after too _ _ up (sym (ap (is_before too) (sides_are columns l (row_at rows (get_or order n 0)))) ∙ last));
  }

  abbrev here : ℕ → Bool
  here p = is_eq (place p)

  found : (start end : ℕ) → start ≤ end → IsEnd false columns l rows order start → IsEnd true columns l rows order end → filter here order ≡ take (end - start) (drop start order)
  found start end forwards first second =
      let rest = drop start order in
      let count = end - start in
      let ends = first.within in
      let ends_too = second.within in
      let front_long = length-take start order in
      let rest_long = length-drop start order in
      let middle_long = length-take count rest in
      let back_long = length-drop count rest in
      let at : (k d : ℕ) → get_or rest k d ≡ get_or order (start + k) d = λ k d. get_or-drop start order k d in
      let zero_at : (k d : ℕ) → k < length order → get_or order k d ≡ get_or order k 0 = λ k d h. get_or_default order k d 0 h in
      let front : filter here (take start order) ≡ [] = filter_none here (take start order) (λ k d h. (
      let low : k < start = omega arith in
      ap here (get_or-take start order k d low ∙ zero_at k d (omega arith)) ∙ less_no _ (first.before k low))) in
      let middle : filter here (take count rest) ≡ take count rest = filter_all here (take count rest) (λ k d h. (
      let short : k < count = omega arith in
      ap here (get_or-take count rest k d short ∙ at k d ∙ zero_at (start + k) d (omega arith)) ∙ between _ (first.after (start + k) (omega arith) (omega arith)) (second.before (start + k) (omega arith)))) in
      let back : filter here (drop count rest) ≡ [] = filter_none here (drop count rest) (λ k d h. (
      let far : end ≤ start + (count + k) = omega arith in
      ap here (get_or-drop count rest k d ∙ at (count + k) d ∙ zero_at (start + (count + k)) d (omega arith)) ∙ greater_no _ (second.after (start + (count + k)) far (omega arith)))) in
      let parts : order ≡ take start order ++ (take count rest ++ drop count rest) = sym (take-append-drop start order) ∙ ap (λ l. take start order ++ l) (sym (take-append-drop count rest)) in
      ap (filter here) parts
      ∙ filter-append here (take start order) (take count rest ++ drop count rest)
      ∙ ap (λ l. l ++ filter here (take count rest ++ drop count rest)) front
      ∙ filter-append here (take count rest) (drop count rest)
      ∙ (λ i. middle i ++ back i)
      ∙ append-nil (take count rest)

  -- ---- those of the sorted positions are those of all positions

  abbrev less : ℕ → ℕ → Bool
  less p q = is_lt (compare_rows_at (right_keys columns) rows p q)

  tie : (x : ℕ) → key_at x ≡ left_key columns l → (y : ℕ) → ties less x y ≡ here y
  tie x is y =
      let own = left_key columns l in
      let up : compare_keys (right_keys columns) (row_at rows x) (row_at rows y) ≡ ordering_reverse (compare_rows (key_at y) own)
      = keys_are-right columns (row_at rows x) (row_at rows y) ∙ ap (λ k. compare_rows k (key_at y)) is ∙ compare_rows_total.antisymm own (key_at y) in
      let down : compare_keys (right_keys columns) (row_at rows y) (row_at rows x) ≡ compare_rows (key_at y) own
      = keys_are-right columns (row_at rows y) (row_at rows x) ∙ ap (compare_rows (key_at y)) is in
      (λ i. not (is_lt (up i)) && not (is_lt (down i))) ∙ tie_eq (compare_rows (key_at y) own) ∙ sym (ap is_eq (sides_are columns l (row_at rows y)))

  in_rows : IsSortedBy (right_keys columns) rows order → (found : List ℕ) → filter here order ≡ found → filter here order ≡ filter here (positions (length rows))
  in_rows sorted [] e =
      let none = All-from_recursion (λ p. here p ≡ false) order (none_pass here order e) in
      let all = positions (length rows) in
      e ∙ sym (filter_none here all (All-permutation (λ p. here p ≡ false) order all (IsPermutation-sym all order sorted.rearranged) none))
  in_rows sorted (x ∷ found) e =
      let yes : here x ≡ true = All-head (λ p. here p ≡ true) x found (subst (All (λ p. here p ≡ true)) e (filter_passes here order)) in
      let is : key_at x ≡ left_key columns l = compare_rows-exact (key_at x) (left_key columns l) (sym (sides_are columns l (row_at rows x)) ∙ exactly (place x) yes) in
      sym (filter_agree (ties less x) here (tie x is) order) ∙ sorted.stable x ∙ filter_agree (ties less x) here (tie x is) (positions (length rows))

  agreeing_found : IsSortedBy (right_keys columns) rows order → lacks_key columns l ≡ false → (start end : ℕ) → start ≤ end → IsEnd false columns l rows order start → IsEnd true columns l rows order end
      → rows_at rows (take (end - start) (drop start order)) ≡ filter (agree columns l) rows
  agreeing_found sorted whole start end forwards first second =
      let t : Row → Bool = λ r. is_eq (compare_sides columns l r) in
      ap (rows_at rows) (sym (found start end forwards first second) ∙ in_rows sorted (filter here order) refl)
      ∙ map_filter (row_at rows) t (positions (length rows))
      ∙ ap (filter t) (all_rows rows)
      ∙ filter_agree t (agree columns l) (λ r. tie_agrees columns l r whole) rows

  pub IsAgreeingRange-found : IsSortedBy (right_keys columns) rows order → lacks_key columns l ≡ false → (start end : ℕ) → start ≤ end → IsEnd false columns l rows order start → IsEnd true columns l rows order end
      → IsAgreeingRange columns l rows order (record { start = start; end = end })
  IsAgreeingRange-found sorted whole start end forwards first second = record {
    forwards = forwards;
    within = second.within;
    agreeing = agreeing_found sorted whole start end forwards first second;
  }

  pub IsAgreeingRange-none : lacks_key columns l ≡ true → (n : ℕ) → n ≤ length order → IsAgreeingRange columns l rows order (record { start = n; end = n })
  IsAgreeingRange-none lacking n within =
      let empty : n - n ≡ 0 = omega arith in
      record {
        forwards = omega arith;
        within = within;
        agreeing = ap (λ k. rows_at rows (take k (drop n order))) empty ∙ sym (filter_none (agree columns l) rows (λ k d h. none_agrees columns l (get_or rows k d) lacking));
      }

  pub AreBefore-too : (n : ℕ) → AreBefore false columns l rows order n → AreBefore true columns l rows order n
  AreBefore-too n before = λ k h. before_too _ (before k h)
