-- The values of a column at places, and sums of them.
use Rattle.std.proofs.Common.{◌≡◌, ◌∙◌, ℕ, zero, suc, ◌+◌, ◌<◌, ◌≤◌, ℤ, pos, ◌+ℤ◌, Bool, true, false, cond, not, ◌||◌, List, [], ◌∷◌, map, length, get_or, refl, sym, ap, arith, ◌⊎◌, inl, inr}
use Rattle.std.proofs.lemmas.Bool.{cases_lt}
use Rattle.std.proofs.lemmas.List.{get_or-map, get_or_past, length-map}
use Rattle.std.proofs.lemmas.List.FromFn.{get_or-map-range_with_len, length-map-range_with_len}
use Rattle.std.specs.List.{list_any}
use Rattle.std.specs.List.Sorted.{IsNonDecreasingBy}
use Rattle.std.proofs.lemmas.List.Sorted.{IsNonDecreasingBy-from_all_adjacent}
use Rattle.std.proofs.lemmas.List.Sums.{sum_by-cons}
use Rattle.std.proofs.lemmas.Int.{ints}
use Rattle.std.proofs.lemmas.Simd.{map-map}
use Rattle.wd_value.specs.declared.value.Value.{Value}
use Rattle.wd_value.specs.declared.value.Value.TheVariants.{Null, Int, Text, Bool as Truth}
use Rattle.wd_value.specs.Rows.{Row, column_of, row_at}
use Rattle.wd_plan.specs.Calls.{total}
use Rattle.wd_plan.specs.Expressions.{is_null}
use Rattle.wd_plan.specs.Partitions.{GroupsRise, group_of}
use Rattle.wd_plan.specs.Plans.{ClassRule}
use Rattle.wd_frame.specs.Slides.{is_number, numbers, present}
use Rattle.wd_frame.specs.IndexRanges.{picked}
use Rattle.wd_calls.specs.Answers.{addend}
use Rattle.wd_calls.specs.Values.{first_values, value_in, values_at}

-- the values of the rows at places are those at the places
pub flat : (partition : List Row) (column : ℕ) (places : List ℕ) → values_at partition column places ≡ map (value_in partition column) places
flat partition column places = map-map (λ r. column_of r column) (row_at partition) places

-- the value at any place, past the last too
first_value : (partition : List Row) (column q : ℕ) → get_or (first_values partition column (length partition)) q Null ≡ value_in partition column q
first_value partition column q = by (cases_lt q (length partition))
  where
    by : (q < length partition) ⊎ (length partition ≤ q) → get_or (first_values partition column (length partition)) q Null ≡ value_in partition column q
    by (inl l) = get_or-map-range_with_len (value_in partition column) 0 (length partition) q q Null l (omega arith)
    by (inr l) =
        let long = length-map-range_with_len (value_in partition column) 0 (length partition) in
        get_or_past (first_values partition column (length partition)) q Null (omega arith) ∙ sym (ap (λ (r : Row). column_of r column) (get_or_past partition q [] l))

pub picked-first : (partition : List Row) (column count : ℕ) (places : List ℕ) → count ≡ length partition → picked (first_values partition column count) places ≡ values_at partition column places
picked-first partition column count places all =
    ap (λ n. picked (first_values partition column n) places) all ∙ (λ i. map (λ q. first_value partition column q i) places) ∙ sym (flat partition column places)

-- ---- sums

-- a function of NULL that is NULL
read-map : (f : Value → Value) (values : List Value) (q : ℕ) → f Null ≡ Null → get_or (map f values) q Null ≡ f (get_or values q Null)
read-map f [] q e = sym e
read-map f (v ∷ vs) zero e = refl
read-map f (v ∷ vs) (suc q) e = read-map f vs q e

pub picked-addends : (values : List Value) (places : List ℕ) → picked (map addend values) places ≡ map addend (picked values places)
picked-addends values places = (λ i. map (λ q. read-map addend values q refl i) places) ∙ sym (map-map addend (λ q. get_or values q Null) places)

zero-plus : (t : ℤ) → pos 0 +ℤ t ≡ t
zero-plus t = omega (arith, ints)

pub total-addends : (values : List Value) → total (map addend values) ≡ total values
total-addends [] = refl
total-addends (Int n ∷ vs) = ap (λ t. n +ℤ t) (total-addends vs)
total-addends (Null ∷ vs) = total-addends vs
total-addends (Text t ∷ vs) = zero-plus (total (map addend vs)) ∙ total-addends vs
total-addends (Truth b ∷ vs) = zero-plus (total (map addend vs)) ∙ total-addends vs

weigh : (v : Value) → is_number (addend v) ≡ not (is_null v)
weigh (Int n) = refl
weigh Null = refl
weigh (Text t) = refl
weigh (Truth b) = refl

pub numbers-addends : (values : List Value) → numbers (map addend values) ≡ present values
numbers-addends [] = refl
numbers-addends (v ∷ vs) =
    sum_by-cons (λ w. cond (is_number w) 1 0) (addend v) (map addend vs)
    ∙ (λ i. cond (weigh v i) 1 0 + numbers-addends vs i)
    ∙ sym (sum_by-cons (λ w. cond (not (is_null w)) 1 0) v vs)

abbrev pub is_some_value : Value → Bool
is_some_value v = not (is_null v)

abbrev pub AreTold : List Value → Type 0
AreTold vs = (present vs ≡ 0 → list_any is_some_value vs ≡ false) × ((present vs ≡ 0 → ⊥) → list_any is_some_value vs ≡ true)

-- whether there is a value that is not NULL, from how many there are
pub any_present : (vs : List Value) → AreTold vs
any_present [] = (λ h. refl, λ h. absurd (h refl))
any_present (v ∷ vs) = by (not (is_null v)) refl (any_present vs)
  where
    cons : present (v ∷ vs) ≡ cond (not (is_null v)) 1 0 + present vs
    cons = sum_by-cons (λ w. cond (not (is_null w)) 1 0) v vs

    by : (b : Bool) → not (is_null v) ≡ b → AreTold vs → AreTold (v ∷ vs)
    by true e later =
        let one : present (v ∷ vs) ≡ 1 + present vs = cons ∙ ap (λ b. cond b 1 0 + present vs) e in
        (λ h. absurd (omega arith), λ h. ap (λ b. b || list_any is_some_value vs) e)
    by false e later =
        let none : present (v ∷ vs) ≡ present vs = cons ∙ ap (λ b. cond b 1 0 + present vs) e ∙ omega arith in
        let rest = ap (λ b. b || list_any is_some_value vs) e in
        (λ h. rest ∙ later.0 (sym none ∙ h), λ h. rest ∙ later.1 (λ g. h (none ∙ g)))

-- ---- ranks

pub rises : {class : ClassRule} {partition : List Row} → GroupsRise class partition → IsNonDecreasingBy (λ (g : ℕ). g) (map (group_of class partition) partition)
rises {class} {partition} rise =
    let group = group_of class partition in
    IsNonDecreasingBy-from_all_adjacent (λ g. g) (map group partition)
    (λ k d h.
    let long = length-map partition group in
    let more : k + 1 < length partition = omega arith in
    let here = get_or-map group partition k [] d (omega arith) in
    let there = get_or-map group partition (k + 1) [] d more in
    elim (rise.next k more) [ inl same ↦ omega arith | inr next ↦ omega arith ])
