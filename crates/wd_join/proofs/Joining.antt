-- Pairs of rows, one left row on, and what is kept of them, one pair on and at the end.
use Rattle.std.proofs.Common.{◌≡◌, ℕ, zero, suc, ◌+◌, ◌*◌, ◌<◌, ◌≤◌, Bool, true, false, cond, ◌&&◌, ◌||◌, List, [], ◌∷◌, ◌++◌, map, filter, take, drop, length, Option, Some, None, Result, Ok, Err, refl, sym, ap, subst, ◌∙◌, arith, inl, inr}
use Rattle.std.proofs.lemmas.List.{append-nil, append_assoc, flat_map_more, take_all, take-append-le, length-append, length-map, length-take, length_push, map-append, map_push, take_more}
use Rattle.std.proofs.lemmas.List.Elements.{filter-append}
use Rattle.std.specs.List.{list_any}
use Rattle.std.specs.Prelude.{IfErr, IfOk, nat_le, nat_lt}
use Rattle.std.specs.declared.alloc.Global.{Global}
use Rattle.std.specs.declared.vec.Vec.{Vec}
use Rattle.wd_value.specs.declared.value.Value.{Value}
use Rattle.wd_value.specs.Rows.{Row, row_at}
use Rattle.wd_value.specs.declared.value.Fault.{Fault}
use Rattle.wd_value.specs.declared.value.Fault.TheVariants.{DivisionByZero, OutOfRange}
use Rattle.wd_plan.specs.Expressions.{Expression, value_of}
use Rattle.wd_plan.specs.Faults.{has_fault, least_fault, unless}
use Rattle.wd_plan.specs.Outcomes.{RowsOrFault, filter_outcome, pairs, passes}
use Rattle.wd_scalar.specs.Arithmetic.{has_arithmetic}
use Rattle.wd_scalar.proofs.Faultless.{never_faults}
use Rattle.wd_steps.specs.Faults.{with_result}
use Rattle.wd_join.specs.declared.error.StepError.{StepError}
use Rattle.wd_join.specs.declared.error.StepError.TheVariants.{TooManyRows}
use Rattle.wd_joined.specs.declared.pairs.Pair.{Pair}
use Rattle.wd_join.specs.Joins.{AreKept, has_more_rows, pairs_or_fault_of, result_of, with_next, within}
use Rattle.std.proofs.lemmas.Bool.{cases_lt, le-leb, lt-leb, lt-ltb, ltb-false, ltb-true}
use Rattle.wd_steps.proofs.Results.{least_fault-push}

-- the pairs of one left row
abbrev pub pairs_with : Row → List Row → List Row
pairs_with l right = map (λ r. l ++ r) right

pub pairs_more : (left right : List Row) (i j : ℕ) → i < length left → length right ≤ j → pairs (take i left) right ++ pairs_with (row_at left i) (take j right) ≡ pairs (take (i + 1) left) right
pairs_more left right i j within all =
    ap (λ rs. pairs (take i left) right ++ pairs_with (row_at left i) rs) (take_all j right all)
    ∙ flat_map_more (λ l. pairs_with l right) [] (take i left) (row_at left i)
    ∙ ap (λ ls. pairs ls right) (sym (take_more left i [] within))

pub length-pairs : (left right : List Row) → length (pairs left right) ≡ length left * length right
length-pairs [] right = omega arith
length-pairs (l ∷ left) right =
    let here = length-map right (λ r. l ++ r) in
    let later = length-pairs left right in
    length-append (pairs_with l right) (pairs left right) ∙ omega arith

-- ---- where no pair can fault, pairs after the rows asked for change nothing

pairs_cut : (left right : List Row) (i : ℕ) → pairs left right ≡ pairs (take i left) right ++ pairs (drop i left) right
pairs_cut left right zero = refl
pairs_cut [] right (suc i) = refl
pairs_cut (l ∷ left) right (suc i) = ap (λ ps. pairs_with l right ++ ps) (pairs_cut left right i) ∙ sym (append_assoc (pairs_with l right) (pairs (take i left) right) (pairs (drop i left) right))

no_fault : (fault : Fault) (condition : Expression) (rows : List Row) → has_arithmetic condition ≡ false → list_any (has_fault fault) (map (value_of condition) rows) ≡ false
no_fault fault condition [] h = refl
no_fault fault condition (r ∷ rows) h =
    let value = never_faults condition r h in
    ap (λ x. has_fault fault x || list_any (has_fault fault) (map (value_of condition) rows)) value.1 ∙ ap (λ b. b || list_any (has_fault fault) (map (value_of condition) rows)) (of_value fault value.0) ∙ no_fault fault condition rows h
  where
    of_value : (f : Fault) (v : Value) → has_fault f (Ok v) ≡ false
    of_value DivisionByZero v = refl
    of_value OutOfRange v = refl

no_least_fault : (condition : Expression) (rows : List Row) → has_arithmetic condition ≡ false → least_fault (map (value_of condition) rows) ≡ None
no_least_fault condition rows h = rw (no_fault DivisionByZero condition rows h, no_fault OutOfRange condition rows h)

pub AreKept-enough : (condition : Expression) (most : ℕ) (left right rows : List Row) (i : ℕ) (fault : Option Fault) → has_arithmetic condition ≡ false → most < length rows
    → AreKept condition most (pairs (take i left) right) rows fault → AreKept condition most (pairs left right) rows fault
AreKept-enough condition most left right rows i fault sure enough kept =
    let t : Row → Bool = λ row. passes (value_of condition row) in
    let so_far = pairs (take i left) right in
    let rest = pairs (drop i left) right in
    let long = ap length kept.rows_are ∙ length-take (most + 1) (filter t so_far) in
    let within : most + 1 ≤ length (filter t so_far) = omega arith in
    record {
      rows_are = kept.rows_are ∙ sym (ap (λ ps. take (most + 1) (filter t ps)) (pairs_cut left right i) ∙ ap (take (most + 1)) (filter-append t so_far rest) ∙ take-append-le (most + 1) (filter t so_far) (filter t rest) within);
      fault_is = kept.fault_is ∙ no_least_fault condition so_far sure ∙ sym (no_least_fault condition (pairs left right) sure);
    }

-- rows that are fewer than asked for are all that pass
AreKept-all : (condition : Expression) (most : ℕ) (all rows : List Row) (fault : Option Fault) → length rows ≤ most → AreKept condition most all rows fault → unless fault rows ≡ filter_outcome condition all
AreKept-all condition most all rows fault short kept =
    let passed = filter (λ row. passes (value_of condition row)) all in
    let long = ap length kept.rows_are ∙ length-take (most + 1) passed in
    let whole : rows ≡ passed = kept.rows_are ∙ take_all (most + 1) passed (omega arith) in
    λ i. unless (kept.fault_is i) (whole i)

-- ---- within the most that are asked for

module _ (condition : Expression) (most : ℕ) (all rows : List Row) where
  abbrev passed : List Row
  passed = filter (λ row. passes (value_of condition row)) all

  -- the outcome, or too many rows
  abbrev IsDecided : Result RowsOrFault StepError → Type 0
  IsDecided r = IfOk r (λ x. x ≡ filter_outcome condition all) × IfErr r (λ e. has_more_rows most (filter_outcome condition all) ≡ true)

  decided : (fault : Option Fault) → AreKept condition most all rows fault → IsDecided (within most rows fault)
  decided (Some f) kept = (ap (λ o. unless o passed) kept.fault_is, tt)
  decided None kept = of_bool (nat_lt most (length rows)) refl
    where
      of_bool : (b : Bool) → nat_lt most (length rows) ≡ b → IsDecided (cond b (Err TooManyRows) (Ok (Ok rows)))
      of_bool false e = (AreKept-all condition most all rows None (ltb-false most (length rows) e) kept, tt)
      of_bool true e =
          let more = ltb-true most (length rows) e in
          let long = ap length kept.rows_are ∙ length-take (most + 1) passed in
          (tt, ap (λ o. has_more_rows most (unless o passed)) (sym kept.fault_is) ∙ lt-ltb most (length passed) (omega arith))

  pub kept_within : (left right : List Row) (fault : Option Fault) (r : Result (Result (Vec Pair Global) Fault) StepError) → AreKept condition most all rows fault → result_of left right r ≡ within most rows fault
      → IfOk r (λ x. pairs_or_fault_of left right x ≡ filter_outcome condition all) × IfErr r (λ e. has_more_rows most (filter_outcome condition all) ≡ true)
  kept_within left right fault (Ok x) kept is = ((subst IsDecided (sym is) (decided fault kept)).0, tt)
  kept_within left right fault (Err e) kept is = (tt, (subst IsDecided (sym is) (decided fault kept)).1)

-- ---- one pair more

-- what is made of a list with one more element
pub map-with_next : {A B : Type 0} (f : A → B) (most : ℕ) (b : Bool) (xs : List A) (x : A) → map f (with_next most b xs x) ≡ with_next most b (map f xs) (f x)
map-with_next f most b xs x = of_cond (b && nat_le (length xs) most) ∙ ap (λ n. cond (b && nat_le n most) (map f xs ++ f x ∷ []) (map f xs)) (sym (length-map xs f))
  where
    of_cond : (c : Bool) → map f (cond c (xs ++ x ∷ []) xs) ≡ cond c (map f xs ++ f x ∷ []) (map f xs)
    of_cond true = map_push f xs x
    of_cond false = refl

kept_step : (t : Row → Bool) (most : ℕ) (all : List Row) (row : Row) (b : Bool) → t row ≡ b → with_next most b (take (most + 1) (filter t all)) row ≡ take (most + 1) (filter t (all ++ row ∷ []))
kept_step t most all row false e = ap (take (most + 1)) (sym (filter-append t all (row ∷ []) ∙ ap (λ b. filter t all ++ cond b (row ∷ []) []) e ∙ append-nil (filter t all)))
kept_step t most all row true e =
    let passed = filter t all in
    let more : filter t (all ++ row ∷ []) ≡ passed ++ row ∷ [] = filter-append t all (row ∷ []) ∙ ap (λ b. passed ++ cond b (row ∷ []) []) e in
    let long = length-take (most + 1) passed in
    let longer = length_push passed row in
    elim (cases_lt most (length (take (most + 1) passed))) [
      | inl full ↦ (
          let within : most + 1 ≤ length passed = omega arith in
          ap (λ b. cond b (take (most + 1) passed ++ row ∷ []) (take (most + 1) passed)) (lt-leb (length (take (most + 1) passed)) most full)
          ∙ sym (ap (take (most + 1)) more ∙ take-append-le (most + 1) passed (row ∷ []) within))
      | inr room ↦ (
          let short : length passed ≤ most = omega arith in
          ap (λ b. cond b (take (most + 1) passed ++ row ∷ []) (take (most + 1) passed)) (le-leb (length (take (most + 1) passed)) most room)
          ∙ ap (λ l. l ++ row ∷ []) (take_all (most + 1) passed (omega arith))
          ∙ sym (ap (take (most + 1)) more ∙ take_all (most + 1) (passed ++ row ∷ []) (omega arith)))
    ]

pub AreKept-more : (condition : Expression) (most : ℕ) (all rows next : List Row) (fault after : Option Fault) (row : Row) (b : Bool) → AreKept condition most all rows fault
    → passes (value_of condition row) ≡ b → next ≡ with_next most b rows row → after ≡ with_result fault (value_of condition row)
    → AreKept condition most (all ++ row ∷ []) next after
AreKept-more condition most all rows next fault after row b kept passed grown looked = record {
  rows_are = grown ∙ ap (λ rs. with_next most b rs row) kept.rows_are ∙ kept_step (λ r. passes (value_of condition r)) most all row b passed;
  fault_is = looked ∙ ap (λ f. with_result f (value_of condition row)) kept.fault_is ∙ sym (ap least_fault (map_push (value_of condition) all row) ∙ least_fault-push (map (value_of condition) all) (value_of condition row));
}

-- the pairs of one left row, one right row on
pub pairs_next : (front : List Row) (l : Row) (right : List Row) (j : ℕ) → j < length right → (front ++ pairs_with l (take j right)) ++ (l ++ row_at right j) ∷ [] ≡ front ++ pairs_with l (take (j + 1) right)
pairs_next front l right j within =
    append_assoc front (pairs_with l (take j right)) ((l ++ row_at right j) ∷ [])
    ∙ ap (λ ps. front ++ ps) (sym (ap (pairs_with l) (take_more right j [] within) ∙ map-append (λ r. l ++ r) (take j right) (row_at right j ∷ [])))
