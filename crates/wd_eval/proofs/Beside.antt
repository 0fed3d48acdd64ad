-- Rows with the values of a Window's calls after them.
use Rattle.std.proofs.Common.{◌≡◌, ℕ, zero, suc, ◌<◌, Bool, true, false, cond, not, ◌||◌, List, [], ◌∷◌, ◌++◌, map, length, get_or, Some, None, Result, Ok, Err, refl, sym, ap, ◌∙◌, arith, append_assoc, zero-add}
use Rattle.std.specs.List.{list_any}
use Rattle.std.specs.Prelude.{IsErr}
use Rattle.std.proofs.lemmas.List.{append-nil, ext_get_or, get_or-map, length-map, map_push}
use Rattle.std.proofs.lemmas.List.Folds.{list_any_at}
use Rattle.std.proofs.lemmas.List.FromFn.{get_or-map-range_with_len, length-map-range_with_len}
use Rattle.wd_value.specs.declared.value.Value.{Value}
use Rattle.wd_value.specs.declared.value.Value.TheVariants.{Null, Int}
use Rattle.wd_value.specs.declared.value.Fault.{Fault}
use Rattle.wd_value.specs.declared.value.Fault.TheVariants.{DivisionByZero, OutOfRange}
use Rattle.wd_value.specs.Bags.{positions}
use Rattle.wd_value.specs.Rows.{Row, row_at}
use Rattle.wd_column_store.specs.Along.{row_along, with_values}
use Rattle.wd_plan.specs.declared.window.Call.{Call}
use Rattle.wd_plan.specs.declared.window.Frame.{Frame}
use Rattle.wd_plan.specs.declared.function.Aggregate.TheVariants.{CountRows, Count, Sum, Min, Max}
use Rattle.wd_plan.specs.declared.function.FrameFunction.TheVariants.{ValueAt, Aggregate}
use Rattle.wd_plan.specs.declared.function.Function.{Function}
use Rattle.wd_plan.specs.declared.function.Function.TheVariants.{Ranking, Shift, OfFrame}
use Rattle.wd_plan.specs.Calls.{call_value, column_values, total}
use Rattle.wd_plan.specs.Expressions.{fits_64, is_null}
use Rattle.wd_plan.specs.Faults.{all_ok, and_then, has_fault, least_fault, unless, values_among}
use Rattle.wd_plan.specs.Frames.{frame_of}
use Rattle.wd_plan.specs.Outcomes.{call_at, class_at, extended, ordering_at, window_outcome}
use Rattle.wd_plan.specs.Partitions.{members, partition_of, place_in}
use Rattle.wd_plan.specs.Plans.{ClassRule, WindowRule}
use Rattle.wd_calls.specs.declared.column.CallColumn.{CallColumn}
use Rattle.wd_calls.specs.CallColumns.{StandsAt}
use Rattle.wd_eval.specs.Beside.{values_of, with_columns}
use Rattle.wd_eval.specs.Columns.{AreColumns}

-- ---- one column more

-- without a column the rows stay
pub beside_none : (rows : List Row) → rows ≡ with_columns rows []
beside_none rows =
    let long = length-map-range_with_len (λ p. row_at rows p ++ []) 0 (length rows) in
    ext_get_or [] rows (with_columns rows []) (sym long) (λ p there.
    sym (get_or-map-range_with_len (λ p. row_at rows p ++ []) 0 (length rows) p p [] there (zero-add p) ∙ append-nil (row_at rows p)))

pub beside_more : (rows : List Row) (columns : List (List Value)) (column : List Value) → with_values (with_columns rows columns) column ≡ with_columns rows (columns ++ column ∷ [])
beside_more rows columns column =
    let n = length rows in
    let fewer = λ (p : ℕ). row_at rows p ++ row_along columns p in
    let more = λ (p : ℕ). row_at rows p ++ row_along (columns ++ column ∷ []) p in
    let value = λ (p : ℕ). get_or column p Null ∷ [] in
    let many : length (with_columns rows columns) ≡ n = length-map-range_with_len fewer 0 n in
    let long = length-map-range_with_len (λ p. row_at (with_columns rows columns) p ++ value p) 0 (length (with_columns rows columns)) in
    let wide = length-map-range_with_len more 0 n in
    ext_get_or [] (with_values (with_columns rows columns) column) (with_columns rows (columns ++ column ∷ [])) (omega arith) (λ p l. (
    let there : p < n = omega arith in
    get_or-map-range_with_len (λ p. row_at (with_columns rows columns) p ++ value p) 0 (length (with_columns rows columns)) p p [] (omega arith) (zero-add p)
    ∙ ap (λ row. row ++ value p) (get_or-map-range_with_len fewer 0 n p p [] there (zero-add p))
    ∙ append_assoc (row_at rows p) (row_along columns p) (value p)
    ∙ ap (λ values. row_at rows p ++ values) (sym (map_push (λ (c : List Value). get_or c p Null) columns column))
    ∙ sym (get_or-map-range_with_len more 0 n p p [] there (zero-add p))))

-- ---- values alone

abbrev oks : {X : Type 0} → List X → List (Result X Fault)
oks xs = map Ok xs

length-oks : {X : Type 0} (xs : List X) → length (oks xs) ≡ length xs
length-oks [] = refl
length-oks (x ∷ xs) = ap suc (length-oks xs)

least_none : {X : Type 0} (xs : List X) → least_fault (oks xs) ≡ None
least_none [] = refl
least_none (x ∷ xs) = least_none xs

values_all : {X : Type 0} (xs : List X) → values_among (oks xs) ≡ xs
values_all [] = refl
values_all (x ∷ xs) = ap (λ ys. x ∷ ys) (values_all xs)

ok_all : {X : Type 0} (rs : List (Result X Fault)) (xs : List X) → rs ≡ oks xs → all_ok rs ≡ Ok xs
ok_all rs xs are = ap all_ok are ∙ (λ i. unless (least_none xs i) (values_all xs i))

-- ---- faults

out_of_two : (a b : Bool) (v : Value) → has_fault DivisionByZero (cond a (cond b (Ok v) (Err OutOfRange)) (Ok Null)) ≡ false
out_of_two true true v = refl
out_of_two true false v = refl
out_of_two false b v = refl

-- a call divides nothing
no_division : (class : ClassRule) (frame : Frame) (function : Function) (partition : List Row) (i : ℕ) → has_fault DivisionByZero (call_value class frame function partition i) ≡ false
no_division class frame (Ranking ranking) partition i = refl
no_division class frame (Shift shift) partition i = refl
no_division class frame (OfFrame (ValueAt row c)) partition i = refl
no_division class frame (OfFrame (Aggregate CountRows)) partition i = refl
no_division class frame (OfFrame (Aggregate (Count c))) partition i = refl
no_division class frame (OfFrame (Aggregate (Sum c))) partition i =
    let vs = column_values c (frame_of class frame partition i) in
    out_of_two (list_any (λ v. not (is_null v)) vs) (fits_64 (total vs)) (Int (total vs))
no_division class frame (OfFrame (Aggregate (Min c))) partition i = refl
no_division class frame (OfFrame (Aggregate (Max c))) partition i = refl

none_among : {X Y : Type 0} (t : Y → Bool) (f : X → Y) (xs : List X) → ((x : X) → t (f x) ≡ false) → list_any t (map f xs) ≡ false
none_among t f [] clean = refl
none_among t f (x ∷ xs) clean = ap (λ b. b || list_any t (map f xs)) (clean x) ∙ none_among t f xs clean

other_fault : (r : Result Value Fault) → IsErr r → has_fault DivisionByZero r ≡ false → has_fault OutOfRange r ≡ true
other_fault (Ok v) fault clean = absurd (cc fault)
other_fault (Err DivisionByZero) fault clean = absurd (cc clean)
other_fault (Err OutOfRange) fault clean = refl

-- the least fault is a result out of range, where one is and none divides by zero
least_is : {X : Type 0} (rs : List (Result X Fault)) → list_any (has_fault DivisionByZero) rs ≡ false → list_any (has_fault OutOfRange) rs ≡ true → all_ok rs ≡ Err OutOfRange
least_is rs clean some_out = λ i. unless (cond (clean i) (Some DivisionByZero) (cond (some_out i) (Some OutOfRange) None)) (values_among rs)

-- values after a row divide nothing where they alone don't
still_none : (row : Row) (rs : List (Result Value Fault)) → list_any (has_fault DivisionByZero) rs ≡ false → has_fault DivisionByZero (and_then (all_ok rs) (λ values. Ok (row ++ values))) ≡ false
still_none row rs clean = by (list_any (has_fault DivisionByZero) rs) (list_any (has_fault OutOfRange) rs) clean
  where
    by : (d o : Bool) → d ≡ false → has_fault DivisionByZero (and_then (unless (cond d (Some DivisionByZero) (cond o (Some OutOfRange) None)) (values_among rs)) (λ values. Ok (row ++ values))) ≡ false
    by true o e = absurd (cc e)
    by false true e = refl
    by false false e = refl

-- ---- all columns are the values of the calls

-- the element within a list
one_at : {X : Type 0} (xs : List X) (i : ℕ) → i < length xs → (x : X) × (x ≡ get_or xs i x)
one_at [] i l = absurd (omega arith)
one_at (x ∷ xs) zero l = (x, refl)
one_at (x ∷ xs) (suc i) l = one_at xs i (omega arith)

abbrev tells : CallColumn → Bool
tells column = column.out_of_range

abbrev IsTelling : List CallColumn → Type 0
IsTelling columns = (k : ℕ) × (k < length columns) × ((other : CallColumn) → tells (get_or columns k other) ≡ true)

telling : (columns : List CallColumn) → list_any tells columns ≡ true → IsTelling columns
telling [] h = absurd (cc h)
telling (column ∷ columns) h = by column.out_of_range refl (telling columns)
  where
    by : (b : Bool) → column.out_of_range ≡ b → (list_any tells columns ≡ true → IsTelling columns) → IsTelling (column ∷ columns)
    by true e next = (0, omega arith, λ other. e)
    by false e next = (
        let later = next (sym (ap (λ b. b || list_any tells columns) e) ∙ h) in
        let within = later.1 in
        (suc later.0, omega arith, later.2))

not_telling : (columns : List CallColumn) (k : ℕ) (other : CallColumn) → list_any tells columns ≡ false → k < length columns → tells (get_or columns k other) ≡ false
not_telling columns k other clean l = by (tells (get_or columns k other)) refl
  where
    by : (b : Bool) → tells (get_or columns k other) ≡ b → tells (get_or columns k other) ≡ false
    by true e = (let some = list_any_at tells columns k other l e in absurd (cc (sym some ∙ clean)))
    by false e = e

pub standing : (column : CallColumn) (p : ℕ) (r : Result Value Fault) → tells column ≡ false → StandsAt column p r → r ≡ Ok (get_or column.values.items p Null)
standing column p (Ok v) clean h = ap Ok (sym h)
standing column p (Err fault) clean h = absurd (cc (sym clean ∙ h.1))

module _ (w : WindowRule) (rows : List Row) (orderings : List (List ℕ)) where
  abbrev n : ℕ
  n = length rows

  abbrev whole : ℕ → Result Row Fault
  whole = extended w rows orderings

  abbrev calls_of : ℕ → List (Result Value Fault)
  calls_of p = map (call_at w rows orderings p) w.calls

  -- each call has its values in the column of its number
  abbrev pub AreValues : List (List Value) → Type 0
  AreValues columns = (p k : ℕ) (call : Call) → p < n → k < length w.calls → call_at w rows orderings p (get_or w.calls k call) ≡ Ok (get_or (get_or columns k []) p Null)

  module _ (columns : List (List Value)) (many : length columns ≡ length w.calls) (are : AreValues columns) where
    calls_there : (p : ℕ) → p < n → calls_of p ≡ oks (row_along columns p)
    calls_there p there =
        let value = λ (c : List Value). get_or c p Null in
        let long = length-map columns value in
        let many_oks = length-oks (row_along columns p) in
        let wide = length-map w.calls (call_at w rows orderings p) in
        ext_get_or (Ok Null) (calls_of p) (oks (row_along columns p)) (omega arith) (λ k l. (
        let named : k < length w.calls = omega arith in
        let within : k < length columns = omega arith in
        let call = one_at w.calls k named in
        get_or-map (call_at w rows orderings p) w.calls k call.0 (Ok Null) named
        ∙ are p k call.0 there named
        ∙ sym (get_or-map Ok (row_along columns p) k Null (Ok Null) (omega arith) ∙ ap Ok (get_or-map value columns k [] Null within))))

    pub window_is : Ok (with_columns rows columns) ≡ window_outcome w rows orderings
    window_is =
        let own = λ (p : ℕ). row_at rows p ++ row_along columns p in
        let long = length-map-range_with_len whole 0 n in
        let wide = length-map-range_with_len own 0 n in
        let many_oks = length-oks (with_columns rows columns) in
        sym (ok_all (map whole (positions n)) (with_columns rows columns) (ext_get_or (Ok []) (map whole (positions n)) (oks (with_columns rows columns)) (omega arith) (λ p l. (
        let there : p < n = omega arith in
        get_or-map-range_with_len whole 0 n p p (Ok []) there (zero-add p)
        ∙ ap (λ r. and_then r (λ values. Ok (row_at rows p ++ values))) (ok_all (calls_of p) (row_along columns p) (calls_there p there))
        ∙ sym (get_or-map Ok (with_columns rows columns) p [] (Ok []) (omega arith) ∙ ap Ok (get_or-map-range_with_len own 0 n p p [] there (zero-add p)))))))

  divides_not : (p : ℕ) (call : Call) → has_fault DivisionByZero (call_at w rows orderings p call) ≡ false
  divides_not p call =
      let class = class_at w call.class in
      let ordering = ordering_at orderings call.class in
      no_division class call.frame call.function (partition_of class rows ordering p) (place_in (members class rows ordering p) p)

  no_divisions : (p : ℕ) → list_any (has_fault DivisionByZero) (calls_of p) ≡ false
  no_divisions p = none_among (has_fault DivisionByZero) (call_at w rows orderings p) w.calls (λ call. divides_not p call)

  -- the least fault is that of a call which has one
  pub out_of_range : (k p : ℕ) (call : Call) → k < length w.calls → p < n → IsErr (call_at w rows orderings p (get_or w.calls k call)) → Err OutOfRange ≡ window_outcome w rows orderings
  out_of_range k p call named there faulty =
      let value = call_at w rows orderings p in
      let wide = length-map w.calls value in
      let long = length-map-range_with_len whole 0 n in
      let at = get_or-map value w.calls k call (Ok Null) named in
      let out = other_fault (value (get_or w.calls k call)) faulty (divides_not p (get_or w.calls k call)) in
      let row : whole p ≡ Err OutOfRange = ap (λ r. and_then r (λ values. Ok (row_at rows p ++ values))) (least_is (calls_of p) (no_divisions p) (list_any_at (has_fault OutOfRange) (calls_of p) k (Ok Null) (omega arith) (ap (has_fault OutOfRange) at ∙ out))) in
      sym (least_is (map whole (positions n)) (none_among (has_fault DivisionByZero) whole (positions n) (λ q. still_none (row_at rows q) (calls_of q) (no_divisions q)))
      (list_any_at (has_fault OutOfRange) (map whole (positions n)) p (Ok []) (omega arith) (ap (has_fault OutOfRange) (get_or-map-range_with_len whole 0 n p p (Ok []) there (zero-add p) ∙ row))))

  module _ (columns : List CallColumn) (are : AreColumns w rows orderings columns) where
    pub window_values : list_any tells columns ≡ false → Ok (with_columns rows (map values_of columns)) ≡ window_outcome w rows orderings
    window_values clean = window_is (map values_of columns) (length-map columns values_of ∙ are.many) (λ p k call there named. (
        let many = are.many in
        let within : k < length columns = omega arith in
        let column = one_at columns k within in
        let is = are.each k call column.0 named in
        standing (get_or columns k column.0) p (call_at w rows orderings p (get_or w.calls k call)) (not_telling columns k column.0 clean within) (is.each p there tt)
        ∙ ap (λ (values : List Value). Ok (get_or values p Null)) (sym (get_or-map values_of columns k column.0 [] within))))

    pub window_fault : list_any tells columns ≡ true → Err OutOfRange ≡ window_outcome w rows orderings
    window_fault some_out =
        let some = telling columns some_out in
        let k = some.0 in
        let many = are.many in
        let within = some.1 in
        let named : k < length w.calls = omega arith in
        let call = one_at w.calls k named in
        let column = one_at columns k within in
        let found = (are.each k call.0 column.0 named).said (some.2 column.0) in
        out_of_range k found.0 call.0 named found.1 found.3

-- where the calls have the same values under other orderings, the Window gives the same
pub same_outcome : (w : WindowRule) (rows : List Row) (own others : List (List ℕ)) → ((p k : ℕ) (call : Call) → p < length rows → k < length w.calls → call_at w rows others p (get_or w.calls k call) ≡ call_at w rows own p (get_or w.calls k call))
    → window_outcome w rows others ≡ window_outcome w rows own
same_outcome w rows own others same =
    let n = length rows in
    let long = length-map-range_with_len (extended w rows others) 0 n in
    let wide = length-map-range_with_len (extended w rows own) 0 n in
    ap all_ok (ext_get_or (Ok []) (map (extended w rows others) (positions n)) (map (extended w rows own) (positions n)) (omega arith) (λ p l. (
    let there : p < n = omega arith in
    let other = length-map w.calls (call_at w rows others p) in
    let first = length-map w.calls (call_at w rows own p) in
    get_or-map-range_with_len (extended w rows others) 0 n p p (Ok []) there (zero-add p)
    ∙ ap (λ rs. and_then (all_ok rs) (λ values. Ok (row_at rows p ++ values))) (ext_get_or (Ok Null) (map (call_at w rows others p) w.calls) (map (call_at w rows own p) w.calls) (omega arith) (λ k h. (
    let named : k < length w.calls = omega arith in
    let call = one_at w.calls k named in
    get_or-map (call_at w rows others p) w.calls k call.0 (Ok Null) named ∙ same p k call.0 there named ∙ sym (get_or-map (call_at w rows own p) w.calls k call.0 (Ok Null) named))))
    ∙ sym (get_or-map-range_with_len (extended w rows own) 0 n p p (Ok []) there (zero-add p)))))
