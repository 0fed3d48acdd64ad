-- Each row of a plan has in its columns the numbers that are known of them.
use Rattle.std.proofs.Common.{◌≡◌, ℕ, zero, suc, ◌+◌, ◌-◌, ◌*◌, ◌/◌, ◌%◌, ◌<◌, ◌≤◌, ◌&&◌, ◌⊎◌, inl, inr, min, pos, Bool, true, false, not, cond, List, [], ◌∷◌, ◌++◌, map, flat_map, length, drop, nat_lt, refl, sym, subst, arith, Option, Some, None, option_and_then, slice_get, Result, Ok, Err}
use Rattle.std.specs.List.{AllByRecursion}
use Rattle.std.specs.Prelude.{int_le}
use Rattle.std.proofs.lemmas.Bool.{and_from, and_parts, cases_lt, false≢true, ltb-false, ltb-true}
use Rattle.std.proofs.lemmas.Int.{ints}
use Rattle.std.proofs.lemmas.List.{get_or-append_right, get_or_append_left, get_or_past}
use Rattle.std.proofs.lemmas.List.FromFn.{length-map-range_with_len}
use Rattle.wd_schema.specs.declared.table.Column.{Column as TableColumn}
use Rattle.wd_schema.specs.Meets.{Meets, MeetsTable, fits_columns, is_null as is_null_there, is_of_type, may_hold}
use Rattle.wd_schema.specs.Tables.{TableRule}
use Rattle.wd_value.specs.declared.value.ColumnType.{ColumnType}
use Rattle.wd_value.specs.declared.value.ColumnType.TheVariants as type
use Rattle.wd_value.specs.declared.value.Fault.{Fault}
use Rattle.wd_value.specs.declared.value.Value.{Value}
use Rattle.wd_value.specs.declared.value.Value.TheVariants.{Null, Int, Text as TextValue, Bool as TruthValue}
use Rattle.wd_value.specs.Rows.{Instance, Row, column_of, row_at, table_at}
use Rattle.wd_laws.proofs.AllValues.{all_ok_each}
use Rattle.wd_laws.proofs.Grouping.{shown_at}
use Rattle.wd_laws.proofs.ValueKinds.{Each, all_map}
use Rattle.wd_laws.proofs.Widths.{AllRows, all_distinct, all_filtered, all_limited, all_results, has_widths, join_good}
use Rattle.wd_plan.proofs.Ranges.{has_the_table}
use Rattle.wd_plan.specs.Calls.{aggregate_value, bucket_from, call_value, ranking_value}
use Rattle.wd_plan.specs.Frames.{frame_of}
use Rattle.wd_plan.specs.Choices.{AreLawful, AreOrderings}
use Rattle.wd_plan.specs.Expressions.{Expression, Column, Literal, Negate, Arithmetic, Compare, Not, And, Or, IsNull, IsNotNull, Case, value_of}
use Rattle.wd_plan.specs.Facts.{HasWidth}
use Rattle.wd_plan.specs.Faults.{all_ok, and_then}
use Rattle.wd_plan.specs.Fits.{fits, has_table, is_narrow, is_step, kinds_of, width}
use Rattle.wd_plan.specs.Outcomes.{call_at, class_at, group_outcome, group_row, group_value, groups, map_outcome, ordering_at, outcome, rows_of_group, set_rows, shown, step_outcome, window_outcome}
use Rattle.wd_plan.specs.Partitions.{members, partition_of, place_in}
use Rattle.wd_plan.specs.Plans.{ClassRule, GroupCall, OfRows, Grouping, GroupRule, Step, PlanTree, Scan, Join, Over, Filter, Map, Group, Window, WindowRule, Distinct, Limit, has, ordering_count, own_orderings, step_classes}
use Rattle.wd_plan.specs.declared.function.Aggregate.{Aggregate as AggregateFunction}
use Rattle.wd_plan.specs.declared.function.Aggregate.TheVariants.{CountRows, Count, Sum, Min, Max}
use Rattle.wd_plan.specs.declared.function.FrameFunction.TheVariants.{ValueAt, Aggregate}
use Rattle.wd_plan.specs.declared.function.Function.{Function}
use Rattle.wd_plan.specs.declared.function.Function.TheVariants.{Ranking as Ranked, Shift as Shifted, OfFrame}
use Rattle.wd_plan.specs.declared.function.Ranking.{Ranking}
use Rattle.wd_plan.specs.declared.function.Ranking.TheVariants.{RowNumber, Rank, DenseRank, Ntile}
use Rattle.wd_plan.specs.declared.window.Call.{Call}
use Rattle.wd_plan.specs.declared.window.Frame.{Frame}
use Rattle.wd_simpler.proofs.Conditions.{IsAmong, is_among}
use Rattle.wd_simpler.proofs.Rows.{all_append, all_made, at_each, both_rows, from_each, is_extended, item_value, step_all, window_rows}
use Rattle.wd_simpler.specs.Keyed.{column_shown}
use Rattle.wd_simpler.specs.Numbers.{from_on, numbers_of, numbers_of_aggregate, numbers_of_call, numbers_of_column, numbers_of_function, numbers_of_group_call, numbers_of_table, numbers_of_type, with_null}
use Rattle.wd_simpler.specs.declared.numbers.Numbers.{Numbers}

-- ---- calls

bucket_rise : (places b n members place : ℕ) → b ≤ bucket_from places b n members place
bucket_rise zero b n members place = omega arith
bucket_rise (suc places) b n members place = by (nat_lt place (b * (members / n) + min b (members % n))) (bucket_rise places (b + 1) n members place)
  where
    by : (t : Bool) → b + 1 ≤ bucket_from places (b + 1) n members place → b ≤ cond t b (bucket_from places (b + 1) n members place)
    by true h = omega arith
    by false h = omega arith

ranking_on : (class : ClassRule) (r : Ranking) (partition : List Row) (i : ℕ) → 1 ≤ ranking_value class r partition i
ranking_on class RowNumber partition i = omega arith
ranking_on class Rank partition i = omega arith
ranking_on class DenseRank partition i = omega arith
ranking_on class (Ntile n) partition i = bucket_rise n 1 n (length partition) i

one_on : (n : ℕ) → 1 ≤ n → (int_le (pos 1) (pos n) && true) ≡ true
one_on n h = and_from (int_le (pos 1) (pos n)) true (from n h) refl
  where
    from : (n : ℕ) → 1 ≤ n → int_le (pos 1) (pos n) ≡ true
    from n h = grind (arith, ints)

zero_on : (n : ℕ) → (int_le (pos 0) (pos n) && true) ≡ true
zero_on n = and_from (int_le (pos 0) (pos n)) true (from n) refl
  where
    from : (n : ℕ) → int_le (pos 0) (pos n) ≡ true
    from n = grind (arith, ints)

value_is : (numbers : Option Numbers) (v w : Value) → ◌≡◌ {A = Result Value Fault} (Ok v) (Ok w) → is_among numbers v ≡ true → is_among numbers w ≡ true
value_is numbers v w e h = subst (λ x. is_among numbers x ≡ true) (let same : v ≡ w = cc in same) h

aggregate_among : (a : AggregateFunction) (rows : List Row) (v : Value) → aggregate_value a rows ≡ Ok v → is_among (numbers_of_aggregate a) v ≡ true
aggregate_among CountRows rows v e = value_is (from_on 0) _ v e (zero_on _)
aggregate_among (Count c) rows v e = value_is (from_on 0) _ v e (zero_on _)
aggregate_among (Sum c) rows v e = refl
aggregate_among (Min c) rows v e = refl
aggregate_among (Max c) rows v e = refl

call_among : (class : ClassRule) (frame : Frame) (function : Function) (partition : List Row) (i : ℕ) (v : Value) → call_value class frame function partition i ≡ Ok v → is_among (numbers_of_function function) v ≡ true
call_among class frame (Ranked r) partition i v e = value_is (from_on 1) (Int (pos (ranking_value class r partition i))) v e (one_on (ranking_value class r partition i) (ranking_on class r partition i))
call_among class frame (Shifted s) partition i v e = refl
call_among class frame (OfFrame (ValueAt row c)) partition i v e = refl
call_among class frame (OfFrame (Aggregate a)) partition i v e = aggregate_among a (frame_of class frame partition i) v e

-- ---- rows beside each other

-- the numbers of so many columns, and of those after them
abbrev beside : ℕ → (ℕ → Option Numbers) → (ℕ → Option Numbers) → ℕ → Option Numbers
beside n numbers more c = cond (nat_lt c n) (numbers c) (more (c - n))

beside_among : (n : ℕ) (numbers more : ℕ → Option Numbers) (row values : Row) → length row ≡ n → IsAmong numbers row → IsAmong more values → IsAmong (beside n numbers more) (row ++ values)
beside_among n numbers more row values long here there c = by (nat_lt c n) refl
  where
    by : (t : Bool) → nat_lt c n ≡ t → is_among (cond t (numbers c) (more (c - n))) (column_of (row ++ values) c) ≡ true
    by true h =
        let k = ltb-true c n h in
        let within : c < length row = omega arith in
        subst (λ v. is_among (numbers c) v ≡ true) (sym (get_or_append_left row values Null c within)) (here c)
    by false h = subst (λ v. is_among (more (c - n)) v ≡ true) (sym (get_or-append_right row values n c Null long (ltb-false c n h))) (there (c - n))

-- the values of several items, each among the numbers that are known of its item
items_among : {A : Type 0} (known : A → Option Numbers) (f : A → Result Value Fault) (items : List A) (values : Row) → all_ok (map f items) ≡ Ok values → ((a : A) (v : Value) → f a ≡ Ok v → is_among (known a) v ≡ true) → IsAmong (λ c. option_and_then known (slice_get items c)) values
items_among {A} known f items values are each c = by (slice_get items c) refl
  where
    by : (o : Option A) → slice_get items c ≡ o → is_among (option_and_then known o) (column_of values c) ≡ true
    by None h = refl
    by (Some a) h = each a (column_of values c) (item_value f items values (all_ok_each f items values are) c a h)

-- a row, and the values of several items after it
extended_among : {A : Type 0} (known : A → Option Numbers) (f : A → Result Value Fault) (items : List A) → ((a : A) (v : Value) → f a ≡ Ok v → is_among (known a) v ≡ true) → (n : ℕ) (numbers : ℕ → Option Numbers) (row : Row) → length row ≡ n → IsAmong numbers row
    → (longer : Row) → and_then (all_ok (map f items)) (λ values. Ok (row ++ values)) ≡ Ok longer → IsAmong (beside n numbers (λ c. option_and_then known (slice_get items c))) longer
extended_among known f items each n numbers row long among longer e =
    let more : ℕ → Option Numbers = λ c. option_and_then known (slice_get items c) in
    let parts = is_extended row (all_ok (map f items)) longer e in
    subst (IsAmong (beside n numbers more)) (sym parts.is) (beside_among n numbers more row parts.added long among (items_among known f items parts.added parts.are each))

-- ---- Scan

kind_among : (kind : ColumnType) (not_null : Bool) (v : Value) → is_of_type kind v ≡ true → not (not_null && is_null_there v) ≡ true → is_among (numbers_of_type kind not_null) v ≡ true
kind_among type.SmallInt true Null e h = absurd (false≢true h)
kind_among type.SmallInt false Null e h = refl
kind_among type.SmallInt not_null (Int n) e h = e
kind_among type.SmallInt not_null (TextValue t) e h = absurd (false≢true e)
kind_among type.SmallInt not_null (TruthValue b) e h = absurd (false≢true e)
kind_among type.Integer true Null e h = absurd (false≢true h)
kind_among type.Integer false Null e h = refl
kind_among type.Integer not_null (Int n) e h = e
kind_among type.Integer not_null (TextValue t) e h = absurd (false≢true e)
kind_among type.Integer not_null (TruthValue b) e h = absurd (false≢true e)
kind_among type.BigInt true Null e h = absurd (false≢true h)
kind_among type.BigInt false Null e h = refl
kind_among type.BigInt not_null (Int n) e h = e
kind_among type.BigInt not_null (TextValue t) e h = absurd (false≢true e)
kind_among type.BigInt not_null (TruthValue b) e h = absurd (false≢true e)
kind_among type.Text not_null v e h = refl
kind_among type.Boolean not_null v e h = refl

fits_among : (columns : List TableColumn) (row : Row) → fits_columns columns row ≡ true → (c : ℕ) → is_among (option_and_then numbers_of_column (slice_get columns c)) (column_of row c) ≡ true
fits_among [] row e c = refl
fits_among (column ∷ columns) [] e c = absurd (false≢true e)
fits_among (column ∷ columns) (v ∷ row) e zero =
    let own = and_parts (is_of_type column.kind v) (not (column.not_null && is_null_there v)) (and_parts (may_hold column v) (fits_columns columns row) e).0 in
    kind_among column.kind column.not_null v own.0 own.1
fits_among (column ∷ columns) (v ∷ row) e (suc c) = fits_among columns row (and_parts (may_hold column v) (fits_columns columns row) e).1 c

scan_among : (tables : List TableRule) (instance : Instance) (table columns : ℕ) → Meets tables instance → has_table tables table columns ≡ true → AllByRecursion (IsAmong (numbers_of_table tables table)) (table_at instance table)
scan_among tables instance table columns meets f =
    let there = has_the_table tables table columns f in
    let t = there.0 in
    let met : MeetsTable t (table_at instance table) = meets.tables table t there.1 in
    from_each (IsAmong (numbers_of_table tables table)) (table_at instance table) (λ p k c.
    subst (λ (o : Option TableRule). is_among (option_and_then (λ (rule : TableRule). option_and_then numbers_of_column (slice_get rule.columns c)) o) (column_of (row_at (table_at instance table) p) c) ≡ true) (sym there.1)
    (fits_among t.columns (row_at (table_at instance table) p) (met.values p [] k) c))

-- ---- Map

shown_among : (numbers : ℕ → Option Numbers) (e : Expression) (row : Row) → IsAmong numbers row → (v : Value) → value_of e row ≡ Ok v → is_among (option_and_then numbers (column_shown e)) v ≡ true
shown_among numbers (Column c) row among v h = value_is (numbers c) (column_of row c) v h (among c)
shown_among numbers (Literal w kind) row among v h = refl
shown_among numbers (Negate a) row among v h = refl
shown_among numbers (Arithmetic o a b) row among v h = refl
shown_among numbers (Compare o a b) row among v h = refl
shown_among numbers (Not a) row among v h = refl
shown_among numbers (And a b) row among v h = refl
shown_among numbers (Or a b) row among v h = refl
shown_among numbers (IsNull a) row among v h = refl
shown_among numbers (IsNotNull a) row among v h = refl
shown_among numbers (Case k a b c) row among v h = refl

-- what an output shows is known by the column that it shows
outputs_known : (numbers : ℕ → Option Numbers) (o : Option Expression) → option_and_then (λ e. option_and_then numbers (column_shown e)) o ≡ option_and_then numbers (option_and_then column_shown o)
outputs_known numbers None = refl
outputs_known numbers (Some e) = refl

map_among : (numbers : ℕ → Option Numbers) (outputs : List Expression) (rows : List Row) → AllByRecursion (IsAmong numbers) rows → AllRows (IsAmong (λ c. option_and_then numbers (option_and_then column_shown (slice_get outputs c)))) (map_outcome outputs rows)
map_among numbers outputs rows a =
    all_made [] (IsAmong (λ c. option_and_then numbers (option_and_then column_shown (slice_get outputs c)))) (λ row. all_ok (map (λ output. value_of output row) outputs)) rows
    (λ p row k e c. let input = row_at rows p in
    subst (λ o. is_among o (column_of row c) ≡ true) (outputs_known numbers (slice_get outputs c))
    (items_among (λ x. option_and_then numbers (column_shown x)) (λ output. value_of output input) outputs row e (λ x v h. shown_among numbers x input (at_each (IsAmong numbers) rows p a k) v h) c))

-- ---- Window

module _ (numbers : ℕ → Option Numbers) (n : ℕ) (w : WindowRule) (rows : List Row) (orderings : List (List ℕ)) where
  call_value_among : (p : ℕ) (call : Call) (v : Value) → call_at w rows orderings p call ≡ Ok v → is_among (numbers_of_call call) v ≡ true
  call_value_among p call v e =
      let class = class_at w call.class in
      let ordering = ordering_at orderings call.class in
      call_among class call.frame call.function (partition_of class rows ordering p) (place_in (members class rows ordering p) p) v e

  abbrev of_window : ℕ → Option Numbers
  of_window = beside n numbers (λ c. option_and_then numbers_of_call (slice_get w.calls c))

  window_among : HasWidth n rows → AllByRecursion (IsAmong numbers) rows → AllRows (IsAmong of_window) (window_outcome w rows orderings)
  window_among wide a =
      window_rows (IsAmong of_window) w rows orderings (λ p row k e.
      extended_among numbers_of_call (call_at w rows orderings p) w.calls (call_value_among p) n numbers (row_at rows p) (at_each (λ (r : Row). length r ≡ n) rows p wide k) (at_each (IsAmong numbers) rows p a k) row e)

-- ---- Group

null_among : (o : Option Numbers) → is_among (with_null o) Null ≡ true
null_among None = refl
null_among (Some numbers) = refl

null_too : (o : Option Numbers) (v : Value) → is_among o v ≡ true → is_among (with_null o) v ≡ true
null_too None v h = refl
null_too (Some numbers) Null h = refl
null_too (Some numbers) (Int n) h = h
null_too (Some numbers) (TextValue t) h = h
null_too (Some numbers) (TruthValue b) h = h

group_call_among : (set : List ℕ) (rows : List Row) (call : GroupCall) (v : Value) → group_value set rows call ≡ Ok v → is_among (numbers_of_group_call call) v ≡ true
group_call_among set rows (OfRows a) v e = aggregate_among a rows v e
group_call_among set rows (Grouping columns) v e = value_is (from_on 0) _ v e (zero_on _)

module _ (numbers : ℕ → Option Numbers) (g : GroupRule) (rows : List Row) (a : AllByRecursion (IsAmong numbers) rows) where
  abbrev grouped : ℕ → Option Numbers
  grouped c = with_null (numbers c)

  -- what a group's row shows of its columns
  abbrev IsShown : Row → Type 0
  IsShown row = (length row ≡ g.columns) × IsAmong grouped row

  is_shown : (set : List ℕ) (row : Row) → ((c : ℕ) → has set c ≡ true → is_among (numbers c) (column_of row c) ≡ true) → IsShown (shown g.columns set row)
  is_shown set row h = (long, λ c. at c (cases_lt c g.columns))
    where
      long : length (shown g.columns set row) ≡ g.columns
      long = length-map-range_with_len (λ c. cond (has set c) (column_of row c) Null) 0 g.columns

      either : (c : ℕ) (b : Bool) → has set c ≡ b → is_among (grouped c) (cond b (column_of row c) Null) ≡ true
      either c true e = null_too (numbers c) (column_of row c) (h c e)
      either c false e = null_among (numbers c)

      at : (c : ℕ) → (c < g.columns) ⊎ (g.columns ≤ c) → is_among (grouped c) (column_of (shown g.columns set row) c) ≡ true
      at c (inl k) = subst (λ v. is_among (grouped c) v ≡ true) (sym (shown_at g.columns set row c k)) (either c (has set c) refl)
      at c (inr k) = subst (λ v. is_among (grouped c) v ≡ true) (sym (get_or_past (shown g.columns set row) c Null (omega (arith, long)))) (null_among (numbers c))

  groups_shown : (set : List ℕ) → AllByRecursion IsShown (groups g.columns set rows)
  groups_shown [] = (is_shown [] [] (λ c e. absurd (false≢true e)), tt)
  groups_shown (c ∷ set) = all_distinct IsShown (map (shown g.columns (c ∷ set)) rows) (all_map (IsAmong numbers) IsShown (shown g.columns (c ∷ set)) (λ row among. is_shown (c ∷ set) row (λ d e. among d)) rows a)

  abbrev of_group : ℕ → Option Numbers
  of_group = beside g.columns grouped (λ c. option_and_then numbers_of_group_call (slice_get g.calls c))

  group_row_among : (set : List ℕ) (group : Row) → IsShown group → Each (IsAmong of_group) (group_row g rows set group)
  group_row_among set group is = by (group_row g rows set group) refl
    where
      by : (r : Result Row Fault) → group_row g rows set group ≡ r → Each (IsAmong of_group) r
      by (Ok row) e =
          let members = rows_of_group g.columns set rows group in
          extended_among numbers_of_group_call (group_value set members) g.calls (group_call_among set members) g.columns grouped group is.0 is.1 row e
      by (Err fault) e = tt

  sets_among : (sets : List (List ℕ)) → AllByRecursion (Each (IsAmong of_group)) (flat_map (set_rows g rows) sets)
  sets_among [] = tt
  sets_among (set ∷ sets) = all_append (Each (IsAmong of_group)) (set_rows g rows set) (flat_map (set_rows g rows) sets) (all_map IsShown (Each (IsAmong of_group)) (group_row g rows set) (group_row_among set) (groups g.columns set rows) (groups_shown set)) (sets_among sets)

  group_among : AllRows (IsAmong of_group) (group_outcome g rows)
  group_among = all_results (IsAmong of_group) (flat_map (set_rows g rows) g.sets) (sets_among g.sets)

-- ---- steps

step_among : (tables : List TableRule) (step : Step) (input : PlanTree) (own : List (List ℕ)) (rows : List Row) → HasWidth (width input) rows → AllByRecursion (IsAmong (numbers_of tables input)) rows → AreOrderings (step_classes step) rows own
    → AllRows (IsAmong (numbers_of tables (Over step input))) (step_outcome step own rows)
step_among tables (Filter condition) input own rows wide a lawful = all_filtered (IsAmong (numbers_of tables input)) condition rows a
step_among tables (Map outputs) input own rows wide a lawful = map_among (numbers_of tables input) outputs rows a
step_among tables (Group g) input own rows wide a lawful = group_among (numbers_of tables input) g rows a
step_among tables (Window w) input own rows wide a lawful = window_among (numbers_of tables input) (width input) w rows own wide a
step_among tables Distinct input own rows wide a lawful = all_distinct (IsAmong (numbers_of tables input)) rows a
step_among tables (Limit limit) input own rows wide a lawful = all_limited (IsAmong (numbers_of tables input)) limit (ordering_at own 0) rows a (lawful.each 0 (omega arith))

-- ---- plans

module _ (tables : List TableRule) (instance : Instance) (meets : Meets tables instance) where
  -- each row has in its columns the numbers that are known of them
  pub all_among : (plan : PlanTree) (choice : List (List ℕ)) → fits tables plan ≡ true → AreLawful plan instance choice → AllRows (IsAmong (numbers_of tables plan)) (outcome plan instance choice)
  all_among (Scan table columns) choice fit a = scan_among tables instance table columns meets (and_parts (is_narrow columns) (has_table tables table columns) fit).1
  all_among (Join condition left right) choice fit a =
      let sides = and_parts (fits tables left) (fits tables right) (and_parts _ _ fit).0 in
      let rest = drop (ordering_count left) choice in
      let P = λ (row : Row). (length row ≡ width left) × IsAmong (numbers_of tables left) row in
      join_good P (IsAmong (numbers_of tables right)) (IsAmong (numbers_of tables (Join condition left right)))
      (λ l r own other. beside_among (width left) (numbers_of tables left) (numbers_of tables right) l r own.0 own.1 other) condition (outcome left instance choice) (outcome right instance rest)
      (both_rows (λ (row : Row). length row ≡ width left) (IsAmong (numbers_of tables left)) (outcome left instance choice) (has_widths tables left instance choice sides.0 meets a.0) (all_among left choice sides.0 a.0))
      (all_among right rest sides.1 a.1)
  all_among (Over step input) choice fit a =
      let own = (and_parts (fits tables input) (is_step (kinds_of tables input) (width input) step) fit).0 in
      step_all (HasWidth (width input)) (AllByRecursion (IsAmong (numbers_of tables input))) (IsAmong (numbers_of tables (Over step input))) step (own_orderings step input choice) (outcome input instance choice)
      (step_among tables step input (own_orderings step input choice)) (has_widths tables input instance choice own meets a.0) (all_among input choice own a.0) a.1
