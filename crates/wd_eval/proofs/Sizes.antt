-- No step but a Group has more rows than its input.
use Rattle.std.proofs.Common.{◌≡◌, ℕ, zero, suc, ◌≤◌, Bool, true, false, cond, not, nat_lt, List, [], ◌∷◌, map, filter, drop, take_while, length, Option, Some, None, Result, Ok, Err, refl, ap, ◌∙◌, arith}
use Rattle.std.proofs.lemmas.Bool.{ltb-false, le-ltb}
use Rattle.std.specs.List.{prefix_len}
use Rattle.std.proofs.lemmas.List.{length-map, length-drop, length-take}
use Rattle.std.proofs.lemmas.List.FromFn.{length-range_with_len}
use Rattle.wd_value.specs.declared.value.Fault.{Fault}
use Rattle.wd_value.specs.Bags.{positions}
use Rattle.wd_value.specs.Rows.{Row, row_at, rows_at, same_row}
use Rattle.wd_value.specs.declared.order.SortColumn.{SortColumn}
use Rattle.wd_plan.specs.Choices.{AreOrderingsOver}
use Rattle.wd_plan.specs.Expressions.{value_of}
use Rattle.wd_plan.specs.Faults.{all_ok, least_fault, unless, values_among}
use Rattle.wd_plan.specs.Outcomes.{RowsOrFault, limited_rows, distinct, extended, first_rows, ordering_at, passes, peers}
use Rattle.wd_plan.specs.Plans.{Step, Filter, Map, Group, Window, Distinct, Limit, step_classes}
use Rattle.wd_partition.proofs.Marks.{length_once}
use Rattle.wd_join.specs.Joins.{has_more_rows}
use Rattle.wd_eval.specs.Walks.{IsFew}
use Rattle.wd_eval.specs.Windows.{step_over}

fewer : (most n m : ℕ) → m ≤ n → nat_lt most n ≡ false → nat_lt most m ≡ false
fewer most n m le h = let few = ltb-false most n h in le-ltb most m (omega arith)

pub fewer_unless : (most : ℕ) (fault : Option Fault) (rows : List Row) → nat_lt most (length rows) ≡ false → has_more_rows most (unless fault rows) ≡ false
fewer_unless most None rows h = h
fewer_unless most (Some fault) rows h = refl

filter-le : {X : Type 0} (t : X → Bool) (xs : List X) → length (filter t xs) ≤ length xs
filter-le t [] = omega arith
filter-le t (x ∷ xs) = by (t x) (filter-le t xs)
  where
    by : (b : Bool) → length (filter t xs) ≤ length xs → length (cond b (x ∷ filter t xs) (filter t xs)) ≤ length (x ∷ xs)
    by true h = omega arith
    by false h = omega arith

take_while-le : {X : Type 0} (t : X → Bool) (xs : List X) → length (take_while t xs) ≤ length xs
take_while-le t xs = let front = length-take (prefix_len t xs) xs in omega arith

pub values_among-le : {X : Type 0} (rs : List (Result X Fault)) → length (values_among rs) ≤ length rs
values_among-le [] = omega arith
values_among-le (Ok x ∷ rs) = let h = values_among-le rs in omega arith
values_among-le (Err f ∷ rs) = let h = values_among-le rs in omega arith

pub distinct-le : (rows : List Row) → length (distinct rows) ≤ length rows
distinct-le [] = omega arith
distinct-le (r ∷ rs) =
    let h = distinct-le rs in
    let f = filter-le (λ q. not (same_row r q)) (distinct rs) in
    omega arith

first_rows-le : (keys : List SortColumn) (ties : Bool) (n : ℕ) (rows : List Row) → length (first_rows keys ties n rows) ≤ length rows
first_rows-le keys ties zero rows = omega arith
first_rows-le keys ties (suc n) [] = omega arith
first_rows-le keys true (suc zero) (r ∷ rows) = let h = take_while-le (peers keys r) rows in omega arith
first_rows-le keys false (suc zero) (r ∷ rows) = omega arith
first_rows-le keys ties (suc (suc n)) (r ∷ rows) = let h = first_rows-le keys ties (suc n) rows in omega arith

cut-le : (keys : List SortColumn) (offset : ℕ) (count : Option ℕ) (ties : Bool) (rows : List Row) → length (limited_rows (record { keys = keys; offset = offset; count = count; ties = ties }) rows) ≤ length rows
cut-le keys offset None ties rows = let after = length-drop offset rows in omega arith
cut-le keys offset (Some n) ties rows =
    let after = length-drop offset rows in
    let front = first_rows-le keys ties n (drop offset rows) in
    omega arith

fewer_all : {X : Type 0} (most : ℕ) (f : X → Result Row Fault) (xs : List X) → nat_lt most (length xs) ≡ false → has_more_rows most (all_ok (map f xs)) ≡ false
fewer_all most f xs h =
    let le = values_among-le (map f xs) in
    let long = length-map xs f in
    fewer_unless most (least_fault (map f xs)) (values_among (map f xs)) (fewer most (length xs) (length (values_among (map f xs))) (omega arith) h)

pub fewer_step : (most : ℕ) (step : Step) (orderings : List (List ℕ)) (input : RowsOrFault) → IsFew most step input → AreOrderingsOver (step_classes step) input orderings → has_more_rows most input ≡ false → has_more_rows most (step_over step orderings input) ≡ false
fewer_step most step orderings (Err fault) few lawful h = refl
fewer_step most (Filter condition) orderings (Ok rows) few lawful h =
    let t = λ (row : Row). passes (value_of condition row) in
    fewer_unless most (least_fault (map (value_of condition) rows)) (filter t rows) (fewer most (length rows) (length (filter t rows)) (filter-le t rows) h)
fewer_step most (Map outputs) orderings (Ok rows) few lawful h = fewer_all most (λ row. all_ok (map (λ output. value_of output row) outputs)) rows h
fewer_step most (Group rule) orderings (Ok rows) few lawful h = few
fewer_step most (Window w) orderings (Ok rows) few lawful h = fewer_all most (extended w rows orderings) (positions (length rows)) (ap (nat_lt most) (length-range_with_len 0 (length rows)) ∙ h)
fewer_step most Distinct orderings (Ok rows) few lawful h = fewer most (length rows) (length (distinct rows)) (distinct-le rows) h
fewer_step most (Limit limit) orderings (Ok rows) few lawful h =
    let ordering = ordering_at orderings 0 in
    let le = cut-le limit.keys limit.offset limit.count limit.ties (rows_at rows ordering) in
    let long = length-map ordering (row_at rows) in
    let once = length_once (length rows) ordering (lawful.each 0 (omega arith)).once in
    fewer most (length rows) (length (limited_rows limit (rows_at rows ordering))) (omega arith) h
