-- The answers of slides over values at places are the values of aggregates over the rows there.
use Rattle.std.proofs.Common.{◌≡◌, ◌∙◌, ℕ, ◌-◌, ◌^◌, ◌<◌, ◌≤◌, ◌⊎◌, inl, inr, min, ℤ, pos, negsuc, true, false, cond, not, count_by, List, length, map, get_or, nat_eq, Ok, int_le, refl, sym, ap, subst, arith, Bor}
use Rattle.std.proofs.lemmas.Bool.{cases_eq}
use Rattle.std.proofs.lemmas.Bool.Decides.{nat_tests}
use Rattle.std.proofs.lemmas.Int.{ints}
use Rattle.std.proofs.lemmas.List.{length-map}
use Rattle.std.proofs.lemmas.List.FromFn.{length-map-range_with_len}
use Rattle.std.proofs.lemmas.List.Sums.{count_by-le-length}
use Rattle.wd_value.specs.declared.order.SortKey.{SortKey}
use Rattle.wd_value.specs.declared.value.Value.{Value}
use Rattle.wd_value.specs.declared.value.Value.TheVariants.{Null, Int, Text, Bool as Truth}
use Rattle.wd_value.specs.Rows.{Row, column_of, row_at, rows_at}
use Rattle.wd_plan.specs.declared.function.Aggregate.TheVariants.{CountRows, Count, Sum, Min, Max}
use Rattle.wd_plan.specs.Calls.{first_by, sum_of, total}
use Rattle.wd_plan.specs.Expressions.{fits_64, in_64, is_null}
use Rattle.wd_frame.specs.declared.answer.Answer.{Answer}
use Rattle.wd_frame.specs.declared.extent.IndexRange.{IndexRange}
use Rattle.wd_frame.specs.Slides.{Nothing, Number, Plain, answer_of, ascending, count_over, descending, first_over, present, seen, shown, sum_over}
use Rattle.wd_frame.specs.IndexRanges.{AreAnswers, AreLists, picked, places_along}
use Rattle.wd_calls.specs.Answers.{AreAnswersOf, AreCounts, addend, value_of}
use Rattle.wd_calls.specs.Values.{first_values, value_in, values_at}
use Rattle.wd_calls.proofs.Columns.{any_present, flat, numbers-addends, picked-addends, picked-first, total-addends}
use Rattle.wd_calls.proofs.FrameCalls.{present_is}

pub answer-is : (v : Value) → value_of (answer_of v) ≡ Ok v
answer-is Null = refl
answer-is (Int n) = refl
answer-is (Text t) = refl
answer-is (Truth b) = refl

fits : (n : ℕ) → n < 2 ^ 63 → fits_64 (pos n) ≡ true
fits n l = rw (low, high) refl
  where
    low : int_le (negsuc (2 ^ 63 - 1)) (pos n) ≡ true
    low = refl

    high : int_le (pos n) (pos (2 ^ 63 - 1)) ≡ true
    high = grind (arith, ints)

pub in-64 : (n : ℕ) → n < 2 ^ 63 → in_64 (pos n) ≡ Ok (Int (pos n))
in-64 n l = rw (fits n l) refl

abbrev sum_from : ℕ → ℤ → Plain
sum_from n t = cond (nat_eq n 0) Nothing (Number t)

pub sum-is : (vs : List Value) → value_of (sum_over (map addend vs)) ≡ sum_of vs
sum-is vs = ap (λ n. value_of (sum_from n (total (map addend vs)))) (numbers-addends vs) ∙ ap (λ t. value_of (sum_from (present vs) t)) (total-addends vs) ∙ by (cases_eq (present vs) 0)
  where
    by : (present vs ≡ 0) ⊎ (present vs ≡ 0 → ⊥) → value_of (sum_from (present vs) (total vs)) ≡ sum_of vs
    by (inl e) = rw e (sym (ap (λ b. cond b (in_64 (total vs)) (Ok Null)) ((any_present vs).0 e)))
    by (inr ne) =
        let no : nat_eq (present vs) 0 ≡ false = grind (arith, nat_tests) in
        rw no (sym (ap (λ b. cond b (in_64 (total vs)) (Ok Null)) ((any_present vs).1 ne)))

-- ---- over a column

module _ (partition : List Row) (count : ℕ) (lists : List (List IndexRange)) (answers : List Answer) (c : ℕ) where
  abbrev over : ℕ → List Value
  over p = picked (first_values partition c count) (places_along lists p)

  values_over : count ≡ length partition → (p : ℕ) → over p ≡ values_at partition c (places_along lists p)
  values_over all p = picked-first partition c count (places_along lists p) all

  pub count_answers : AreAnswers count_over over count answers → AreAnswersOf (Count c) partition count lists answers
  count_answers are = record { long = are.long; each = each }
    where
      each : count ≡ length partition → (p : ℕ) (other : Answer) → p < count → length (places_along lists p) < 2 ^ 63 → value_of (shown (get_or answers p other)) ≡ Ok (Int (pos (count_by (λ r. not (is_null (column_of r c))) (rows_at partition (places_along lists p)))))
      each all p other l few =
          let vs = values_at partition c (places_along lists p) in
          let long : length vs ≡ length (places_along lists p) = ap length (flat partition c (places_along lists p)) ∙ length-map (places_along lists p) (value_in partition c) in
          let most : present vs ≤ length vs = count_by-le-length (λ v. not (is_null v)) vs in
          ap value_of ((are.each p other l).exact ∙ ap count_over (values_over all p)) ∙ in-64 (present vs) (omega arith) ∙ ap (λ n. Ok (Int (pos n))) (present_is partition c (places_along lists p))

  first_answers : (key : SortKey) → AreAnswers (first_over key) over count answers → count ≡ length partition → (p : ℕ) (other : Answer) → p < count
      → value_of (shown (get_or answers p other)) ≡ Ok (first_by key (values_at partition c (places_along lists p)))
  first_answers key are all p other l =
      ap value_of ((are.each p other l).exact ∙ ap (first_over key) (values_over all p)) ∙ answer-is (first_by key (values_at partition c (places_along lists p)))

  pub least_answers : AreAnswers (first_over ascending) over count answers → AreAnswersOf (Min c) partition count lists answers
  least_answers are = record { long = are.long; each = λ all p other l few. first_answers ascending are all p other l }

  pub greatest_answers : AreAnswers (first_over descending) over count answers → AreAnswersOf (Max c) partition count lists answers
  greatest_answers are = record { long = are.long; each = λ all p other l few. first_answers descending are all p other l }

  pub sum_answers : AreAnswers sum_over (λ p. picked (map addend (first_values partition c count)) (places_along lists p)) count answers → AreAnswersOf (Sum c) partition count lists answers
  sum_answers are = record {
    long = are.long;
    each = λ all p other l few.
        ap value_of ((are.each p other l).exact ∙ ap sum_over (picked-addends (first_values partition c count) (places_along lists p) ∙ ap (map addend) (values_over all p)))
        ∙ sum-is (values_at partition c (places_along lists p));
  }

-- ---- over references to a column

column_long : (partition : List Row) (c count : ℕ) (refs : List (Bor Value)) → seen refs ≡ first_values partition c count → length refs ≡ count
column_long partition c count refs e = sym (length-map refs (λ (r : Bor Value). r.now)) ∙ ap length e ∙ length-map-range_with_len (value_in partition c) 0 count

pub column_lists : (partition : List Row) (c count : ℕ) (refs : List (Bor Value)) (lists : List (List IndexRange)) → seen refs ≡ first_values partition c count → AreLists count lists → AreLists (length refs) lists
column_lists partition c count refs lists e are = subst (λ n. AreLists n lists) (sym (column_long partition c count refs e)) are

pub column_answers : (plain : List Value → Plain) (partition : List Row) (c count : ℕ) (refs : List (Bor Value)) (lists : List (List IndexRange)) (answers : List Answer) → seen refs ≡ first_values partition c count
    → AreAnswers plain (λ p. picked (seen refs) (places_along lists p)) (length refs) answers → AreAnswers plain (λ p. picked (first_values partition c count) (places_along lists p)) count answers
column_answers plain partition c count refs lists answers e are =
    subst (λ vs. AreAnswers plain (λ p. picked vs (places_along lists p)) count answers) e
    (subst (λ n. AreAnswers plain (λ p. picked (seen refs) (places_along lists p)) n answers) (column_long partition c count refs e) are)

addends_long : (partition : List Row) (c count : ℕ) (refs adds : List (Bor Value)) → seen refs ≡ first_values partition c count → seen adds ≡ map addend (seen refs) → length adds ≡ count
addends_long partition c count refs adds e f =
    sym (length-map adds (λ (r : Bor Value). r.now)) ∙ ap length f ∙ length-map (seen refs) addend ∙ length-map refs (λ (r : Bor Value). r.now) ∙ column_long partition c count refs e

pub addend_lists : (partition : List Row) (c count : ℕ) (refs adds : List (Bor Value)) (lists : List (List IndexRange)) → seen refs ≡ first_values partition c count → seen adds ≡ map addend (seen refs) → AreLists count lists → AreLists (length adds) lists
addend_lists partition c count refs adds lists e f are = subst (λ n. AreLists n lists) (sym (addends_long partition c count refs adds e f)) are

pub addend_answers : (partition : List Row) (c count : ℕ) (refs adds : List (Bor Value)) (lists : List (List IndexRange)) (answers : List Answer) → seen refs ≡ first_values partition c count → seen adds ≡ map addend (seen refs)
    → AreAnswers sum_over (λ p. picked (seen adds) (places_along lists p)) (length adds) answers → AreAnswers sum_over (λ p. picked (map addend (first_values partition c count)) (places_along lists p)) count answers
addend_answers partition c count refs adds lists answers e f are =
    subst (λ vs. AreAnswers sum_over (λ p. picked vs (places_along lists p)) count answers) (f ∙ ap (map addend) e)
    (subst (λ n. AreAnswers sum_over (λ p. picked (seen adds) (places_along lists p)) n answers) (addends_long partition c count refs adds e f) are)

-- ---- counts of rows

pub row_answers : (partition : List Row) (count : ℕ) (lists : List (List IndexRange)) (answers : List Answer) → AreCounts count lists answers → AreAnswersOf CountRows partition count lists answers
row_answers partition count lists answers are = record {
  long = are.long;
  each = λ all p other l few.
      let all_counted : min (length (places_along lists p)) (2 ^ 64 - 1) ≡ length (places_along lists p) = omega arith in
      ap value_of (are.each p other l ∙ ap (λ n. Number (pos n)) all_counted) ∙ in-64 (length (places_along lists p)) few ∙ ap (λ n. Ok (Int (pos n))) (sym (length-map (places_along lists p) (row_at partition)));
}

-- of the first places, and of one more
pub record AreCountsUpTo (lists : List (List IndexRange)) (n : ℕ) (answers : List Answer) : Type 0 where
  pub long : length answers ≡ n
  pub each : (p : ℕ) (other : Answer) → p < n → shown (get_or answers p other) ≡ Number (pos (min (length (places_along lists p)) (2 ^ 64 - 1)))
