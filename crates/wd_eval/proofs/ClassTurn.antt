-- A Window where one of its classes has another ordering: what it gave, the calls of that class, and the rows with the values of all calls.
use Rattle.std.proofs.Common.{◌≡◌, ℕ, ◌+◌, ◌-◌, ◌<◌, Bool, false, List, [], ◌∷◌, ◌++◌, map, length, get_or, set, Result, Ok, Err, refl, sym, ap, ◌∙◌, subst, inl, inr, arith, length-append, zero-add}
use Rattle.std.proofs.lemmas.Bool.{cases_lt}
use Rattle.std.proofs.lemmas.List.{get_or-append-add, get_or-map, get_or-set_same, get_or-set_other, get_or_append_left, get_or_push, length-set, length_push}
use Rattle.std.proofs.lemmas.List.FromFn.{get_or-range_with_len, length-range_with_len}
use Rattle.wd_value.specs.declared.value.Value.{Value}
use Rattle.wd_value.specs.declared.value.Value.TheVariants.{Null}
use Rattle.wd_value.specs.declared.value.Fault.{Fault}
use Rattle.wd_value.specs.Bags.{positions}
use Rattle.wd_value.specs.Rows.{Row, column_of, row_at}
use Rattle.wd_column_store.specs.Along.{values_before, with_values}
use Rattle.wd_plan.specs.declared.window.Call.{Call}
use Rattle.wd_plan.specs.Calls.{value_at}
use Rattle.wd_plan.specs.Faults.{all_ok, and_then}
use Rattle.wd_plan.specs.Outcomes.{RowsOrFault, call_at, class_at, extended, ordering_at, window_outcome}
use Rattle.wd_plan.specs.Plans.{WindowRule}
use Rattle.wd_laws.proofs.AllValues.{AllOk, all_ok_each}
use Rattle.wd_calls.specs.declared.column.CallColumn.{CallColumn}
use Rattle.wd_partition.specs.declared.turn.Turn.{Turn}
use Rattle.wd_eval.specs.Beside.{with_columns}
use Rattle.wd_eval.specs.ClassIndexes.{AreAskedBy, IsClassIndexIn, WhereClassIndex, asks_keys}
use Rattle.wd_eval.specs.Columns.{AreFilled, IsColumn}
use Rattle.wd_eval.specs.Tied.{IsSortedOrdering}
use Rattle.wd_eval.specs.Turning.{AreSameButFor, IsTurnedWindow}
use Rattle.wd_eval.specs.declared.class_index.ClassIndex.{ClassIndex}
use Rattle.wd_eval.proofs.Beside.{beside_more, beside_none, same_outcome, window_is}
use Rattle.wd_eval.proofs.Filled.{first_below}

module _ (class : ℕ) (own : List (List ℕ)) (ordering : List ℕ) where
  pub same_but : AreSameButFor class own (set own class ordering)
  same_but = record { long = length-set own class ordering; same = λ k other. get_or-set_other own class k ordering [] other }

  pub there_is : class < length own → ordering_at (set own class ordering) class ≡ ordering
  there_is h = get_or-set_same own class ordering [] h

-- ---- what a Window gave shows the values of its calls

-- the rows that a Window gave end with the values of its calls
pub record ShowsCalls (w : WindowRule) (rows : List Row) (own : List (List ℕ)) (given : List Row) : Type 0 where
  pub many : length given ≡ length rows
  pub each : (p k : ℕ) (call : Call) → p < length rows → k < length w.calls
      → call_at w rows own p (get_or w.calls k call) ≡ Ok (column_of (row_at given p) (length (row_at given p) - (length w.calls - k)))

module _ (w : WindowRule) (rows : List Row) (own : List (List ℕ)) (given : List Row) (is : Ok given ≡ window_outcome w rows own) where
  abbrev n : ℕ
  n = length rows

  each_row : AllOk (extended w rows own) (positions n) given
  each_row = all_ok_each (extended w rows own) (positions n) given (sym is)

  many : length given ≡ n
  many = each_row.long ∙ length-range_with_len 0 n

  row_is : (p : ℕ) → p < n → extended w rows own p ≡ Ok (row_at given p)
  row_is p h = subst (λ q. extended w rows own q ≡ Ok (row_at given p)) (get_or-range_with_len 0 n p 0 h ∙ zero-add p) (each_row.each p 0 [] (let long = length-range_with_len 0 n in omega arith))

  -- the values of the calls at a row, where all have one
  ends_with : (p : ℕ) (values : Result Row Fault) → all_ok (map (call_at w rows own p) w.calls) ≡ values → (row : Row) → and_then values (λ vs. Ok (row_at rows p ++ vs)) ≡ Ok row
      → (k : ℕ) (call : Call) → k < length w.calls → call_at w rows own p (get_or w.calls k call) ≡ Ok (column_of row (length row - (length w.calls - k)))
  ends_with p (Err fault) are row made k call h = cc
  ends_with p (Ok vs) are row made k call h =
      let front = row_at rows p in
      let all = all_ok_each (call_at w rows own p) w.calls vs are in
      let long = all.long in
      let same : front ++ vs ≡ row = cc in
      let size = sym (ap length same) ∙ length-append front vs in
      let place : length row - (length w.calls - k) ≡ length front + k = omega arith in
      let value : column_of row (length row - (length w.calls - k)) ≡ get_or vs k Null = ap (column_of row) place ∙ ap (λ r. get_or r (length front + k) Null) (sym same) ∙ get_or-append-add front vs k Null in
      all.each k call Null h ∙ ap Ok (sym value)

  pub shows_calls : ShowsCalls w rows own given
  shows_calls = record { many = many; each = λ p k call h l. ends_with p (all_ok (map (call_at w rows own p) w.calls)) refl (row_at given p) (row_is p h) k call l }

-- ---- a call of the class, and of another

module _ (w : WindowRule) (rows : List Row) (class : ℕ) (others : List (List ℕ)) where
  pub kept_is : (own : List (List ℕ)) (given : List Row) (number p : ℕ) (call : Call) → AreSameButFor class own others → ShowsCalls w rows own given → number < length w.calls → p < length rows → ((get_or w.calls number call).class ≡ class → ⊥)
      → call_at w rows others p (get_or w.calls number call) ≡ Ok (get_or (values_before given (length w.calls - number)) p Null)
  kept_is own given number p call same shown named there other =
      let this = get_or w.calls number call in
      let after = length w.calls - number in
      let value = λ (ordering : List ℕ). value_at (class_at w this.class) this.frame this.function rows ordering p in
      let many = shown.many in
      ap value (same.same this.class other) ∙ shown.each p number call there named
      ∙ ap Ok (sym (get_or-map (λ (row : Row). column_of row (length row - after)) given p [] Null (omega arith)))

  pub turned_is : (call : Call) (column : CallColumn) (class_index : ClassIndex) → call.class ≡ class → AreAskedBy call.frame (asks_keys w call.class) → IsClassIndexIn w class rows (ordering_at others class) class_index
      → WhereClassIndex call.frame rows class_index (λ class ordering. AreFilled class call rows ordering (length rows) column) → IsColumn w rows others call column
  turned_is call column class_index is needs listed filled =
      let own = subst (λ k. IsClassIndexIn w k rows (ordering_at others k) class_index) (sym is) listed in
      let found = filled (class_at w call.class) (asks_keys w call.class) (ordering_at others call.class) needs own in
      record {
        long = found.long;
        each = λ p within all. found.each p within (first_below (class_at w call.class) rows (ordering_at others call.class) own.lawful p within);
        said = λ h. (let some = found.said h in (some.0, some.1, tt, some.3));
      }

-- ---- the rows with the values of the first calls

-- the rows with the values of the first n calls; unless it is said to be other, each is the value that was given
pub record HasCalls (w : WindowRule) (rows : List Row) (given : List Row) (others : List (List ℕ)) (n : ℕ) (found : List Row) (is_other : Bool) : Type 0 where
  pub columns : List (List Value)
  pub many : length columns ≡ n
  pub are : found ≡ with_columns rows columns
  pub values : (p k : ℕ) (call : Call) → p < length rows → k < n → call_at w rows others p (get_or w.calls k call) ≡ Ok (get_or (get_or columns k []) p Null)
  pub same : is_other ≡ false → (p k : ℕ) → p < length rows → k < n → get_or (get_or columns k []) p Null ≡ column_of (row_at given p) (length (row_at given p) - (length w.calls - k))

module _ (w : WindowRule) (rows given : List Row) (others : List (List ℕ)) where
  pub no_calls : (found : List Row) → found ≡ rows → HasCalls w rows given others 0 found false
  no_calls found is = record {
    columns = [];
    many = refl;
    are = is ∙ beside_none rows;
    values = λ p k call there low. absurd (omega arith);
    same = λ clean p k there low. absurd (omega arith);
  }

  module _ (n : ℕ) (found : List Row) (is_other : Bool) (has : HasCalls w rows given others n found is_other) where
    before : (values : List Value) (k : ℕ) → k < n → get_or (has.columns ++ values ∷ []) k [] ≡ get_or has.columns k []
    before values k low = let many = has.many in get_or_append_left has.columns (values ∷ []) [] k (omega arith)

    last : (values : List Value) (k : ℕ) → n ≡ k → get_or (has.columns ++ values ∷ []) k [] ≡ values
    last values k is = get_or_push has.columns values [] k (has.many ∙ is)

    -- a call more
    pub one_call : (values : List Value) (new : List Row) (now_other : Bool) → new ≡ with_values found values → ((p : ℕ) (call : Call) → p < length rows → call_at w rows others p (get_or w.calls n call) ≡ Ok (get_or values p Null))
        → (now_other ≡ false → (is_other ≡ false) × ((p : ℕ) → p < length rows → get_or values p Null ≡ column_of (row_at given p) (length (row_at given p) - (length w.calls - n))))
        → HasCalls w rows given others (n + 1) new now_other
    one_call values new now_other extended are same = record {
      columns = has.columns ++ values ∷ [];
      many = length_push has.columns values ∙ ap (λ m. m + 1) has.many;
      are = extended ∙ ap (λ rs. with_values rs values) has.are ∙ beside_more rows has.columns values;
      values = λ p k call there low. elim (cases_lt k n) [
        | inl less ↦ has.values p k call there less ∙ ap (λ (column : List Value). Ok (get_or column p Null)) (sym (before values k less))
        | inr past ↦ (
            let here : n ≡ k = omega arith in
            subst (λ m. call_at w rows others p (get_or w.calls m call) ≡ Ok (get_or (get_or (has.columns ++ values ∷ []) m []) p Null)) here
            (are p call there ∙ ap (λ (column : List Value). Ok (get_or column p Null)) (sym (last values n refl))))
      ];
      same = λ clean p k there low. elim (cases_lt k n) [
        | inl less ↦ ap (λ (column : List Value). get_or column p Null) (before values k less) ∙ has.same (same clean).0 p k there less
        | inr past ↦ (
            let here : n ≡ k = omega arith in
            subst (λ m. get_or (get_or (has.columns ++ values ∷ []) m []) p Null ≡ column_of (row_at given p) (length (row_at given p) - (length w.calls - m))) here
            (ap (λ (column : List Value). get_or column p Null) (last values n refl) ∙ (same clean).1 p there))
      ];
    }

    -- all calls
    pub all_calls : n ≡ length w.calls → Ok found ≡ window_outcome w rows others
    all_calls all = ap Ok has.are ∙ window_is w rows others has.columns (has.many ∙ all) (λ p k call there named. has.values p k call there (omega arith))

    -- and all as they were given
    pub as_given : (own : List (List ℕ)) → n ≡ length w.calls → is_other ≡ false → Ok given ≡ window_outcome w rows own → Ok given ≡ window_outcome w rows others
    as_given own all clean is =
        let shown = shows_calls w rows own given is in
        is ∙ sym (same_outcome w rows own others (λ p k call there named. (
        let low : k < n = omega arith in
        has.values p k call there low ∙ ap Ok (has.same clean p k there low) ∙ sym (shown.each p k call there named))))

-- what a Window gives under the orderings of which this one is exchanged
pub window_turned : (w : WindowRule) (rows : List Row) (own : List (List ℕ)) (class : ℕ) (turn : Turn) (ordering : List ℕ) (found : RowsOrFault) → class < length own → IsSortedOrdering (class_at w class) turn rows ordering
    → found ≡ window_outcome w rows (set own class ordering) → IsTurnedWindow w rows own class turn found
window_turned w rows own class turn ordering found h sorted is = record {
  others = set own class ordering;
  same = same_but class own ordering;
  sorted = subst (IsSortedOrdering (class_at w class) turn rows) (sym (there_is class own ordering h)) sorted;
  is = is;
}
