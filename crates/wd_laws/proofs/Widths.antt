-- The rows of a node have its width, and their values its columns' kinds.
use Rattle.std.proofs.Common.{◌≡◌, ℕ, zero, suc, ◌+◌, ◌-◌, ◌<◌, ◌≤◌, ◌⊎◌, inl, inr, Bool, true, false, cond, not, ◌&&◌, List, [], ◌∷◌, ◌++◌, map, flat_map, length, take_while, drop, refl, sym, ◌∙◌, ap, subst, arith, nat_lt, Option, Some, None, option_and_then, option_map, slice_get, Result, Ok, Err}
use Rattle.std.specs.List.{AllByRecursion, list_all}
use Rattle.std.proofs.lemmas.Bool.{and_parts, false≢true, ltb-false, ltb-true}
use Rattle.std.proofs.lemmas.List.{get_or-append_right, get_or_append_left, length-append}
use Rattle.std.proofs.lemmas.List.Sums.{take_while-cons}
use Rattle.std.proofs.lemmas.Option.{get_or_from_slice_get, slice_get_within}
use Rattle.wd_value.proofs.Perms.{Perm-all}
use Rattle.wd_value.specs.Bags.{positions}
use Rattle.wd_value.specs.Rows.{Instance, Row, column_of, row_at, rows_at, same_row, table_at}
use Rattle.wd_value.specs.declared.value.ColumnType.{ColumnType}
use Rattle.wd_value.specs.declared.value.ColumnType.TheVariants as type
use Rattle.wd_value.specs.declared.value.Fault.{Fault}
use Rattle.wd_value.specs.declared.value.Value.{Value}
use Rattle.wd_value.specs.declared.value.Value.TheVariants.{Int, Null, Text as TextValue, Bool as TruthValue}
use Rattle.wd_schema.specs.declared.table.Column.{Column as TableColumn}
use Rattle.wd_schema.specs.Meets.{Meets, MeetsTable, fits_columns, is_null as is_null_there, is_of_type, may_hold}
use Rattle.wd_schema.specs.Tables.{TableRule}
use Rattle.wd_plan.specs.declared.expression.ValueKind.{ValueKind}
use Rattle.wd_plan.specs.declared.expression.ValueKind.TheVariants.{Number}
use Rattle.wd_value.specs.declared.order.SortColumn.{SortColumn}
use Rattle.wd_plan.specs.declared.window.Call.{Call}
use Rattle.wd_plan.specs.Choices.{AreLawful, AreOrderings, AreOrderingsOver, AtRows}
use Rattle.wd_plan.specs.Expressions.{Expression, value_of}
use Rattle.wd_plan.specs.Faults.{all_ok, and_then, least_fault, unless, values_among}
use Rattle.wd_plan.specs.Fits.{Kinds, are_bounds, fits, has_class, has_keys_for, has_table, is_call, is_join, is_narrow, is_of_kind, is_step, is_typed, kind_of, kind_of_call, kind_of_group_call, kind_of_type, kinds_of, step_kinds, step_width, table_kind, takes, width}
use Rattle.wd_plan.specs.Outcomes.{RowsOrFault, call_at, class_at, limited_rows, distinct, extended, filter_outcome, first_rows, group_outcome, group_row, group_value, groups, join_outcome, map_outcome, ordering_at, outcome, pairs, passes, peers, rows_of_group, set_rows, shown, step_outcome, window_outcome}
use Rattle.wd_plan.specs.Partitions.{members, partition_of, place_in}
use Rattle.wd_plan.specs.Plans.{ClassRule, GroupCall, OfRows, Grouping, GroupRule, LimitRule, WindowRule, Step, Filter, Map, Group, Window, Distinct, Limit, PlanTree, Scan, Join, Over, has, step_classes, ordering_count, own_orderings}
use Rattle.wd_plan.specs.Sorting.{IsOrdering, limit_class}
use Rattle.wd_plan.proofs.Parts.{all_filter}
use Rattle.wd_plan.proofs.Ranges.{has_the_table, table_columns}
use Rattle.wd_laws.proofs.AllValues.{AllOk, all_ok_each}
use Rattle.std.proofs.lemmas.Bool.{cases_lt}
use Rattle.std.proofs.lemmas.List.{get_or_past}
use Rattle.std.proofs.lemmas.List.FromFn.{length-map-range_with_len}
use Rattle.wd_laws.proofs.Grouping.{shown_at}
use Rattle.wd_laws.proofs.Parts.{Perm-ordered, below_all}
use Rattle.wd_laws.proofs.ValueKinds.{Each, IsOf, aggregate_is, all_map, as_kind, call_is, empty_is, null_is_of, rows_at_are, value_is}
use Rattle.wd_laws.specs.Laws.{HasKinds, HasWidths, IsOfKinds}

-- a row of so many values, each of its column's kind
abbrev pub IsGood : ℕ → Kinds → Row → Type 0
IsGood columns kinds row = (length row ≡ columns) × IsOfKinds kinds row

-- what holds of each row, where there are rows
abbrev pub AllRows : (Row → Type 0) → RowsOrFault → Type 0
AllRows P r = AtRows r (AllByRecursion P) (Unit {0})

-- ---- steps that pass rows on

all_unless : (P : Row → Type 0) (o : Option Fault) (rows : List Row) → AllByRecursion P rows → AllRows P (unless o rows)
all_unless P None rows a = a
all_unless P (Some fault) rows a = tt

pub all_filtered : (P : Row → Type 0) (condition : Expression) (rows : List Row) → AllByRecursion P rows → AllRows P (filter_outcome condition rows)
all_filtered P condition rows a = all_unless P (least_fault (map (value_of condition) rows)) _ (all_filter (λ row. passes (value_of condition row)) P P (λ row p e. p) rows a)

all_joined : (P : Row → Type 0) (condition : Option Expression) (rows : List Row) → AllByRecursion P rows → AllRows P (join_outcome condition rows)
all_joined P None rows a = a
all_joined P (Some condition) rows a = all_filtered P condition rows a

pub all_distinct : (P : Row → Type 0) (rows : List Row) → AllByRecursion P rows → AllByRecursion P (distinct rows)
all_distinct P [] a = tt
all_distinct P (r ∷ rows) a = (a.0, all_filter (λ q. not (same_row r q)) P P (λ row p e. p) (distinct rows) (all_distinct P rows a.1))

all_after : (P : Row → Type 0) (n : ℕ) (rows : List Row) → AllByRecursion P rows → AllByRecursion P (drop n rows)
all_after P zero rows a = a
all_after P (suc n) [] a = tt
all_after P (suc n) (r ∷ rows) a = all_after P n rows a.1

all_while : (P : Row → Type 0) (t : Row → Bool) (rows : List Row) → AllByRecursion P rows → AllByRecursion P (take_while t rows)
all_while P t [] a = tt
all_while P t (r ∷ rows) a = subst (AllByRecursion P) (sym (take_while-cons t r rows)) (by (t r) (all_while P t rows a.1))
  where
    by : (b : Bool) → AllByRecursion P (take_while t rows) → AllByRecursion P (cond b (r ∷ take_while t rows) [])
    by true rest = (a.0, rest)
    by false rest = tt

all_first : (P : Row → Type 0) (keys : List SortColumn) (ties : Bool) (n : ℕ) (rows : List Row) → AllByRecursion P rows → AllByRecursion P (first_rows keys ties n rows)
all_first P keys ties zero rows a = tt
all_first P keys ties (suc n) [] a = tt
all_first P keys true (suc zero) (r ∷ rows) a = (a.0, all_while P (peers keys r) rows a.1)
all_first P keys false (suc zero) (r ∷ rows) a = (a.0, tt)
all_first P keys ties (suc (suc n)) (r ∷ rows) a = (a.0, all_first P keys ties (suc n) rows a.1)

all_cut : (P : Row → Type 0) (limit : LimitRule) (rows : List Row) → AllByRecursion P rows → AllByRecursion P (limited_rows limit rows)
all_cut P limit rows a = by limit.count
  where
    by : (count : Option ℕ) → AllByRecursion P (limited_rows (record limit { count = count }) rows)
    by None = all_after P limit.offset rows a
    by (Some n) = all_first P limit.keys limit.ties n (drop limit.offset rows) (all_after P limit.offset rows a)

pub all_limited : (P : Row → Type 0) (limit : LimitRule) (ordering : List ℕ) (rows : List Row) → AllByRecursion P rows → IsOrdering (limit_class limit) rows ordering → AllByRecursion P (limited_rows limit (rows_at rows ordering))
all_limited P limit ordering rows a lawful = all_cut P limit (rows_at rows ordering) (Perm-all P (Perm-ordered rows ordering lawful.once) a)

-- a step over rows under lawful orderings
all_then : (P Q : Row → Type 0) (r : RowsOrFault) (classes : List ClassRule) (own : List (List ℕ)) (f : List Row → RowsOrFault) → ((rows : List Row) → AllByRecursion P rows → AreOrderings classes rows own → AllRows Q (f rows)) → AllRows P r → AreOrderingsOver classes r own → AllRows Q (and_then r f)
all_then P Q (Ok rows) classes own f h a v = h rows a v
all_then P Q (Err fault) classes own f h a v = tt

-- ---- steps that make rows

among_step : (P : Row → Type 0) (r : Result Row Fault) (rs : List (Result Row Fault)) → Each P r → AllByRecursion P (values_among rs) → AllByRecursion P (values_among (r ∷ rs))
among_step P (Ok row) rs h a = (h, a)
among_step P (Err fault) rs h a = a

all_among : {A : Type 0} (G : A → Type 0) (P : Row → Type 0) (f : A → Result Row Fault) → ((a : A) → G a → Each P (f a)) → (as' : List A) → AllByRecursion G as' → AllByRecursion P (values_among (map f as'))
all_among G P f h [] g = tt
all_among G P f h (a ∷ as') g = among_step P (f a) (map f as') (h a g.0) (all_among G P f h as' g.1)

-- rows that are made one by one
all_made : {A : Type 0} (G : A → Type 0) (P : Row → Type 0) (f : A → Result Row Fault) → ((a : A) → G a → Each P (f a)) → (as' : List A) → AllByRecursion G as' → AllRows P (all_ok (map f as'))
all_made G P f h as' g = all_unless P (least_fault (map f as')) (values_among (map f as')) (all_among G P f h as' g)

-- and rows among results
among_all : (P : Row → Type 0) (rs : List (Result Row Fault)) → AllByRecursion (Each P) rs → AllByRecursion P (values_among rs)
among_all P [] a = tt
among_all P (r ∷ rs) a = among_step P r rs a.0 (among_all P rs a.1)

pub all_results : (P : Row → Type 0) (rs : List (Result Row Fault)) → AllByRecursion (Each P) rs → AllRows P (all_ok rs)
all_results P rs a = all_unless P (least_fault rs) (values_among rs) (among_all P rs a)

all_after_all : {X : Type 0} (P : X → Type 0) (xs ys : List X) → AllByRecursion P xs → AllByRecursion P ys → AllByRecursion P (xs ++ ys)
all_after_all P [] ys a b = b
all_after_all P (x ∷ xs) ys a b = (a.0, all_after_all P xs ys a.1 b)

-- a left row and a right row beside each other
beside_good : (first second : ℕ) (kinds more : Kinds) (l r : Row) → IsGood first kinds l → IsGood second more r → IsGood (first + second) (λ c. cond (nat_lt c first) (kinds c) (more (c - first))) (l ++ r)
beside_good first second kinds more l r a b = (length-append l r ∙ (λ i. a.0 i + b.0 i), λ c kind e. by c kind (nat_lt c first) refl e)
  where
    by : (c : ℕ) (kind : ValueKind) (t : Bool) → nat_lt c first ≡ t → cond t (kinds c) (more (c - first)) ≡ Some kind → IsOf kind (column_of (l ++ r) c)
    by c kind true h e =
        let k = ltb-true c first h in
        let long = a.0 in
        let within : c < length l = omega arith in
        subst (IsOf kind) (sym (get_or_append_left l r Null c within)) (a.1 c kind e)
    by c kind false h e = subst (IsOf kind) (sym (get_or-append_right l r first c Null a.0 (ltb-false c first h))) (b.1 (c - first) kind e)

-- the values of several items, each of its item's kind
items_good : {A : Type 0} (kind_at : A → Option ValueKind) (f : A → Result Value Fault) (items : List A) → ((n : ℕ) (a : A) → slice_get items n ≡ Some a → (kind : ValueKind) → kind_at a ≡ Some kind → Each (IsOf kind) (f a)) → Each (IsGood (length items) (λ c. option_and_then kind_at (slice_get items c))) (all_ok (map f items))
items_good {A} kind_at f items each = by (all_ok (map f items)) refl
  where
    at : (row : Row) → AllOk f items row → (c : ℕ) (kind : ValueKind) (o : Option A) → slice_get items c ≡ o → option_and_then kind_at o ≡ Some kind → IsOf kind (column_of row c)
    at row all c kind None h e = cc
    at row all c kind (Some a) h e =
        let own : f a ≡ Ok (column_of row c) = ap f (sym (get_or_from_slice_get items c a a h)) ∙ all.each c a Null (slice_get_within items c a h) in
        subst (Each (IsOf kind)) own (each c a h kind e)

    by : (r : Result Row Fault) → all_ok (map f items) ≡ r → Each (IsGood (length items) (λ c. option_and_then kind_at (slice_get items c))) r
    by (Ok row) h = let all = all_ok_each f items row h in (all.long, λ c kind e. at row all c kind (slice_get items c) refl e)
    by (Err fault) h = tt

holds_at : {X : Type 0} (t : X → Bool) (xs : List X) (n : ℕ) (x : X) → list_all t xs ≡ true → slice_get xs n ≡ Some x → t x ≡ true
holds_at t [] n x a e = cc
holds_at t (y ∷ xs) zero x a e =
    let same : y ≡ x = cc in
    ap t (sym same) ∙ (and_parts (t y) (list_all t xs) a).0
holds_at t (y ∷ xs) (suc n) x a e = holds_at t xs n x (and_parts (t y) (list_all t xs) a).1 e

kinds_only : (columns : ℕ) (kinds : Kinds) (rows : List Row) → AllByRecursion (IsGood columns kinds) rows → AllByRecursion (IsOfKinds kinds) rows
kinds_only columns kinds [] a = tt
kinds_only columns kinds (r ∷ rows) a = (a.0.1, kinds_only columns kinds rows a.1)

widths_only : (columns : ℕ) (kinds : Kinds) (rows : List Row) → AllByRecursion (IsGood columns kinds) rows → AllByRecursion (λ (r : Row). length r ≡ columns) rows
widths_only columns kinds [] a = tt
widths_only columns kinds (r ∷ rows) a = (a.0.0, widths_only columns kinds rows a.1)

at_below : (P : Row → Type 0) (rows : List Row) (p : ℕ) → AllByRecursion P rows → p < length rows → P (row_at rows p)
at_below P [] p a h = absurd (omega arith)
at_below P (r ∷ rows) zero a h = a.0
at_below P (r ∷ rows) (suc p) a h = at_below P rows p a.1 (omega arith)

from_positions : (P : Row → Type 0) (rows : List Row) → ((p : ℕ) → p < length rows → P (row_at rows p)) → AllByRecursion P rows
from_positions P [] h = tt
from_positions P (r ∷ rows) h = (h 0 (omega arith), from_positions P rows (λ p k. h (suc p) (omega arith)))

-- ---- Scan

type_is : (kind : ColumnType) (v : Value) → is_of_type kind v ≡ true → is_of_kind (kind_of_type kind) v ≡ true
type_is type.SmallInt Null e = refl
type_is type.SmallInt (Int n) e = refl
type_is type.SmallInt (TextValue t) e = cc
type_is type.SmallInt (TruthValue b) e = cc
type_is type.Integer Null e = refl
type_is type.Integer (Int n) e = refl
type_is type.Integer (TextValue t) e = cc
type_is type.Integer (TruthValue b) e = cc
type_is type.BigInt Null e = refl
type_is type.BigInt (Int n) e = refl
type_is type.BigInt (TextValue t) e = cc
type_is type.BigInt (TruthValue b) e = cc
type_is type.Text Null e = refl
type_is type.Text (Int n) e = cc
type_is type.Text (TextValue t) e = refl
type_is type.Text (TruthValue b) e = cc
type_is type.Boolean Null e = refl
type_is type.Boolean (Int n) e = cc
type_is type.Boolean (TextValue t) e = cc
type_is type.Boolean (TruthValue b) e = refl

fits_long : (columns : List TableColumn) (row : Row) → fits_columns columns row ≡ true → length row ≡ length columns
fits_long [] [] e = refl
fits_long [] (v ∷ row) e = absurd (false≢true e)
fits_long (column ∷ columns) [] e = absurd (false≢true e)
fits_long (column ∷ columns) (v ∷ row) e = ap suc (fits_long columns row (and_parts (may_hold column v) (fits_columns columns row) e).1)

fits_kinds : (columns : List TableColumn) (row : Row) → fits_columns columns row ≡ true → (c : ℕ) (kind : ValueKind) → option_map (λ (column : TableColumn). kind_of_type column.kind) (slice_get columns c) ≡ Some kind → IsOf kind (column_of row c)
fits_kinds [] row e c kind f = cc
fits_kinds (column ∷ columns) [] e c kind f = absurd (false≢true e)
fits_kinds (column ∷ columns) (v ∷ row) e zero kind f =
    let same : kind_of_type column.kind ≡ kind = cc in
    let own = and_parts (is_of_type column.kind v) (not (column.not_null && is_null_there v)) (and_parts (may_hold column v) (fits_columns columns row) e).0 in
    subst (λ k. is_of_kind k v ≡ true) same (type_is column.kind v own.0)
fits_kinds (column ∷ columns) (v ∷ row) e (suc c) kind f = fits_kinds columns row (and_parts (may_hold column v) (fits_columns columns row) e).1 c kind f

scan_good : (tables : List TableRule) (instance : Instance) (table columns : ℕ) → Meets tables instance → has_table tables table columns ≡ true → AllByRecursion (IsGood columns (table_kind tables table)) (table_at instance table)
scan_good tables instance table columns meets f =
    let there = has_the_table tables table columns f in
    let t = there.0 in
    let met : MeetsTable t (table_at instance table) = meets.tables table t there.1 in
    let long = table_columns tables table columns t there.1 f in
    from_positions (IsGood columns (table_kind tables table)) (table_at instance table) (λ p k.
    let row = row_at (table_at instance table) p in
    let own : fits_columns t.columns row ≡ true = met.values p [] k in
    (fits_long t.columns row own ∙ sym long, λ c kind e. fits_kinds t.columns row own c kind (sym (ap (λ o. option_and_then (λ (t : TableRule). option_map (λ (column : TableColumn). kind_of_type column.kind) (slice_get t.columns c)) o) there.1) ∙ e)))

-- ---- Join

row_pairs : (P Q R : Row → Type 0) → ((l r : Row) → P l → Q r → R (l ++ r)) → (l : Row) (right rest : List Row) → P l → AllByRecursion Q right → AllByRecursion R rest → AllByRecursion R (map (λ r. l ++ r) right ++ rest)
row_pairs P Q R f l [] rest p b a = a
row_pairs P Q R f l (r ∷ right) rest p b a = (f l r p b.0, row_pairs P Q R f l right rest p b.1 a)

all_pairs : (P Q R : Row → Type 0) → ((l r : Row) → P l → Q r → R (l ++ r)) → (left right : List Row) → AllByRecursion P left → AllByRecursion Q right → AllByRecursion R (pairs left right)
all_pairs P Q R f [] right a b = tt
all_pairs P Q R f (l ∷ left) right a b = row_pairs P Q R f l right (pairs left right) a.0 b (all_pairs P Q R f left right a.1 b)

pub join_good : (P Q R : Row → Type 0) → ((l r : Row) → P l → Q r → R (l ++ r)) → (condition : Option Expression) (left right : RowsOrFault) → AllRows P left → AllRows Q right → AllRows R (and_then left (λ ls. and_then right (λ rs. join_outcome condition (pairs ls rs))))
join_good P Q R f condition (Ok left) (Ok right) a b = all_joined R condition (pairs left right) (all_pairs P Q R f left right a b)
join_good P Q R f condition (Ok left) (Err fault) a b = tt
join_good P Q R f condition (Err fault) right a b = tt

-- ---- Map

map_good : (kinds : Kinds) (columns : ℕ) (outputs : List Expression) → list_all (is_typed kinds) outputs ≡ true → (rows : List Row) → AllByRecursion (IsGood columns kinds) rows → AllRows (IsGood (length outputs) (λ c. option_and_then (kind_of kinds) (slice_get outputs c))) (map_outcome outputs rows)
map_good kinds columns outputs typed rows a =
    all_made (IsGood columns kinds) (IsGood (length outputs) (λ c. option_and_then (kind_of kinds) (slice_get outputs c))) (λ row. all_ok (map (λ output. value_of output row) outputs))
    (λ row good. items_good (kind_of kinds) (λ output. value_of output row) outputs (λ n x at kind e. value_is kinds row good.1 x (holds_at (is_typed kinds) outputs n x typed at) kind e)) rows a

-- ---- Window

call_takes : (kinds : Kinds) (classes : List ClassRule) (call : Call) → is_call kinds classes call ≡ true → takes kinds call.function ≡ true
call_takes kinds classes call e = by (slice_get classes call.class) refl
  where
    by : (o : Option ClassRule) → slice_get classes call.class ≡ o → takes kinds call.function ≡ true
    by None h = absurd (let g : false ≡ true = rw h at e in false≢true g)
    by (Some class) h =
        let g : (takes kinds call.function && (are_bounds call.frame.start call.frame.end && has_keys_for kinds class.order call.frame)) ≡ true = rw h at e in
        (and_parts (takes kinds call.function) (are_bounds call.frame.start call.frame.end && has_keys_for kinds class.order call.frame) g).0

extended_good : (P Q R : Row → Type 0) → ((l r : Row) → P l → Q r → R (l ++ r)) → (row : Row) (values : Result Row Fault) → P row → Each Q values → Each R (and_then values (λ vs. Ok (row ++ vs)))
extended_good P Q R f row (Ok values) a b = f row values a b
extended_good P Q R f row (Err fault) a b = tt

window_good : (kinds : Kinds) (columns : ℕ) (w : WindowRule) → list_all (is_call kinds w.classes) w.calls ≡ true → (orderings : List (List ℕ)) (rows : List Row) → AllByRecursion (IsGood columns kinds) rows
    → AllRows (IsGood (columns + length w.calls) (λ c. cond (nat_lt c columns) (kinds c) (option_and_then (kind_of_call kinds) (slice_get w.calls (c - columns))))) (window_outcome w rows orderings)
window_good kinds columns w are orderings rows a =
    let more : Kinds = λ c. option_and_then (kind_of_call kinds) (slice_get w.calls c) in
    let new : Kinds = λ c. cond (nat_lt c columns) (kinds c) (more (c - columns)) in
    all_made (λ p. p < length rows) (IsGood (columns + length w.calls) new) (extended w rows orderings)
    (λ p within. extended_good (IsGood columns kinds) (IsGood (length w.calls) more) (IsGood (columns + length w.calls) new) (beside_good columns (length w.calls) kinds more) (row_at rows p) (all_ok (map (call_at w rows orderings p) w.calls))
    (at_below (IsGood columns kinds) rows p a within)
    (items_good (kind_of_call kinds) (call_at w rows orderings p) w.calls (λ n call at kind e.
    let class = class_at w call.class in
    let ordering = ordering_at orderings call.class in
    call_is kinds (partition_of class rows ordering p) (place_in (members class rows ordering p) p) (rows_at_are kinds rows (members class rows ordering p) (kinds_only columns kinds rows a)) class call.frame call.function (call_takes kinds w.classes call (holds_at (is_call kinds w.classes) w.calls n call are at)) kind e)))
    (positions (length rows)) (below_all 0 (length rows) (length rows) (omega arith))

-- ---- Group

-- a row of a group: of its set's group, and of the values of its calls
module _ (kinds : Kinds) (columns : ℕ) (g : GroupRule) (rows : List Row) (are : AllByRecursion (IsOfKinds kinds) rows) where
  either_is_shown : (row : Row) (c : ℕ) (kind : ValueKind) (t : Bool) → IsOf kind (column_of row c) → IsOf kind (cond t (column_of row c) Null)
  either_is_shown row c kind true own = own
  either_is_shown row c kind false own = null_is_of kind

  shown_good : (set : List ℕ) (row : Row) → IsOfKinds kinds row → IsGood g.columns kinds (shown g.columns set row)
  shown_good set row is = (long, λ c kind e. at c kind e (cases_lt c g.columns))
    where
      long : length (shown g.columns set row) ≡ g.columns
      long = length-map-range_with_len (λ c. cond (has set c) (column_of row c) Null) 0 g.columns

      at : (c : ℕ) (kind : ValueKind) → kinds c ≡ Some kind → (c < g.columns) ⊎ (g.columns ≤ c) → IsOf kind (column_of (shown g.columns set row) c)
      at c kind e (inl h) = subst (IsOf kind) (sym (shown_at g.columns set row c h)) (either_is_shown row c kind (has set c) (is c kind e))
      at c kind e (inr h) = subst (IsOf kind) (sym (get_or_past (shown g.columns set row) c Null (omega (arith, long)))) (null_is_of kind)

  groups_good : (set : List ℕ) → AllByRecursion (IsGood g.columns kinds) (groups g.columns set rows)
  groups_good [] = (shown_good [] [] (empty_is kinds), tt)
  groups_good (c ∷ set) = all_distinct (IsGood g.columns kinds) (map (shown g.columns (c ∷ set)) rows) (all_map (IsOfKinds kinds) (IsGood g.columns kinds) (shown g.columns (c ∷ set)) (shown_good (c ∷ set)) rows are)

  group_value_is : (set : List ℕ) (group : Row) (call : GroupCall) (kind : ValueKind) → kind_of_group_call kinds call ≡ Some kind → Each (IsOf kind) (group_value set (rows_of_group g.columns set rows group) call)
  group_value_is set group (OfRows a) kind e =
      let test : Row → Bool = λ row. same_row group (shown g.columns set row) in
      aggregate_is kinds (rows_of_group g.columns set rows group) (all_filter test (IsOfKinds kinds) (IsOfKinds kinds) (λ r p t. p) rows are) a kind e
  group_value_is set group (Grouping arguments) kind e = as_kind Number kind (group_value set (rows_of_group g.columns set rows group) (Grouping arguments)) e refl

  abbrev of_group : Kinds
  of_group c = cond (nat_lt c g.columns) (kinds c) (option_and_then (kind_of_group_call kinds) (slice_get g.calls (c - g.columns)))

  group_row_good : (set : List ℕ) (group : Row) → IsGood g.columns kinds group → Each (IsGood (g.columns + length g.calls) of_group) (group_row g rows set group)
  group_row_good set group good =
      let more : Kinds = λ c. option_and_then (kind_of_group_call kinds) (slice_get g.calls c) in
      extended_good (IsGood g.columns kinds) (IsGood (length g.calls) more) (IsGood (g.columns + length g.calls) of_group) (beside_good g.columns (length g.calls) kinds more) group (all_ok (map (group_value set (rows_of_group g.columns set rows group)) g.calls)) good
      (items_good (kind_of_group_call kinds) (group_value set (rows_of_group g.columns set rows group)) g.calls (λ n call at kind e. group_value_is set group call kind e))

  sets_good : (sets : List (List ℕ)) → AllByRecursion (Each (IsGood (g.columns + length g.calls) of_group)) (flat_map (set_rows g rows) sets)
  sets_good [] = tt
  sets_good (set ∷ sets) =
      all_after_all (Each (IsGood (g.columns + length g.calls) of_group)) (set_rows g rows set) (flat_map (set_rows g rows) sets)
      (all_map (IsGood g.columns kinds) (Each (IsGood (g.columns + length g.calls) of_group)) (group_row g rows set) (group_row_good set) (groups g.columns set rows) (groups_good set))
      (sets_good sets)

  group_good : AllRows (IsGood (g.columns + length g.calls) of_group) (group_outcome g rows)
  group_good = all_results (IsGood (g.columns + length g.calls) of_group) (flat_map (set_rows g rows) g.sets) (sets_good g.sets)

-- ---- plans

step_good : (step : Step) (kinds : Kinds) (columns : ℕ) (own : List (List ℕ)) → is_step kinds columns step ≡ true → (rows : List Row) → AllByRecursion (IsGood columns kinds) rows → AreOrderings (step_classes step) rows own
    → AllRows (IsGood (step_width step columns) (step_kinds step columns kinds)) (step_outcome step own rows)
step_good (Filter condition) kinds columns own f rows a v = all_filtered (IsGood columns kinds) condition rows a
step_good (Map outputs) kinds columns own f rows a v = map_good kinds columns outputs (and_parts (is_narrow (length outputs)) (list_all (is_typed kinds) outputs) f).1 rows a
step_good (Group g) kinds columns own f rows a v = group_good kinds columns g rows (kinds_only columns kinds rows a)
step_good (Window w) kinds columns own f rows a v =
    let parts = and_parts (is_narrow (columns + length w.calls)) (list_all (has_class kinds) w.classes && list_all (is_call kinds w.classes) w.calls) f in
    let calls = and_parts (list_all (has_class kinds) w.classes) (list_all (is_call kinds w.classes) w.calls) parts.1 in
    window_good kinds columns w calls.1 own rows a
step_good Distinct kinds columns own f rows a v = all_distinct (IsGood columns kinds) rows a
step_good (Limit limit) kinds columns own f rows a v = all_limited (IsGood columns kinds) limit (ordering_at own 0) rows a (v.each 0 (omega arith))

all_good : (tables : List TableRule) (instance : Instance) → Meets tables instance → (plan : PlanTree) (choice : List (List ℕ)) → fits tables plan ≡ true → AreLawful plan instance choice → AllRows (IsGood (width plan) (kinds_of tables plan)) (outcome plan instance choice)
all_good tables instance meets (Scan table columns) choice f lawful = scan_good tables instance table columns meets (and_parts (is_narrow columns) (has_table tables table columns) f).1
all_good tables instance meets (Join condition left right) choice f lawful =
    let first = and_parts (fits tables left && fits tables right) (is_join (kinds_of tables (Join condition left right)) (width left + width right) condition) f in
    let sides = and_parts (fits tables left) (fits tables right) first.0 in
    let after = drop (ordering_count left) choice in
    join_good (IsGood (width left) (kinds_of tables left)) (IsGood (width right) (kinds_of tables right)) (IsGood (width left + width right) (kinds_of tables (Join condition left right))) (beside_good (width left) (width right) (kinds_of tables left) (kinds_of tables right)) condition (outcome left instance choice) (outcome right instance after)
    (all_good tables instance meets left choice sides.0 lawful.0) (all_good tables instance meets right after sides.1 lawful.1)
all_good tables instance meets (Over step input) choice f lawful =
    let parts = and_parts (fits tables input) (is_step (kinds_of tables input) (width input) step) f in
    let own = own_orderings step input choice in
    all_then (IsGood (width input) (kinds_of tables input)) (IsGood (width (Over step input)) (kinds_of tables (Over step input))) (outcome input instance choice) (step_classes step) own (step_outcome step own) (step_good step (kinds_of tables input) (width input) own parts.1) (all_good tables instance meets input choice parts.0 lawful.0) lawful.1

-- ---- the laws

part_of_all : (P Q : Row → Type 0) → ((rows : List Row) → AllByRecursion P rows → AllByRecursion Q rows) → (r : RowsOrFault) → AllRows P r → AllRows Q r
part_of_all P Q h (Ok rows) a = h rows a
part_of_all P Q h (Err fault) a = tt

pub has_widths : HasWidths
has_widths tables plan instance choice f meets lawful = part_of_all (IsGood (width plan) (kinds_of tables plan)) (λ (r : Row). length r ≡ width plan) (widths_only (width plan) (kinds_of tables plan)) (outcome plan instance choice) (all_good tables instance meets plan choice f lawful)

pub has_kinds : HasKinds
has_kinds tables plan instance choice f meets lawful = part_of_all (IsGood (width plan) (kinds_of tables plan)) (IsOfKinds (kinds_of tables plan)) (kinds_only (width plan) (kinds_of tables plan)) (outcome plan instance choice) (all_good tables instance meets plan choice f lawful)
