-- The values of expressions and of window calls are of the kinds that types give them.
use Rattle.std.proofs.Common.{◌≡◌, ℕ, zero, suc, ◌+◌, ◌-◌, ◌<◌, ℤ, pos, negsuc, Bool, true, false, cond, ◌&&◌, List, [], ◌∷◌, map, reverse, length, filter, get_or, refl, sym, ◌∙◌, ap, subst, arith, is_gt, nat_le, nat_lt, Option, Some, None, Result, Ok, Err}
use Rattle.std.specs.Prelude.{◌+ℤ◌, ◌-ℤ◌, ◌*ℤ◌, neg_ℤ, int_div, int_rem}
use Rattle.std.specs.List.{AllByRecursion, enumerate_from}
use Rattle.std.proofs.lemmas.Bool.{and_parts, false≢true}
use Rattle.std.proofs.lemmas.List.{get_or-reverse}
use Rattle.wd_value.specs.Order.{compare}
use Rattle.wd_value.specs.Rows.{Row, column_of, row_at, rows_at}
use Rattle.wd_value.specs.declared.order.SortKey.{SortKey}
use Rattle.wd_value.specs.declared.value.Fault.{Fault}
use Rattle.wd_value.specs.declared.value.Fault.TheVariants.{OutOfRange}
use Rattle.wd_value.specs.declared.value.Value.{Value}
use Rattle.wd_value.specs.declared.value.Value.TheVariants.{Int, Null, Text as TextValue, Bool as TruthValue}
use Rattle.wd_plan.specs.declared.expression.ArithmeticOp.{ArithmeticOp}
use Rattle.wd_plan.specs.declared.expression.ArithmeticOp.TheVariants.{Add, Subtract, Multiply, Divide, Remainder}
use Rattle.wd_plan.specs.declared.expression.ComparisonOp.{ComparisonOp}
use Rattle.wd_plan.specs.declared.expression.ValueKind.{ValueKind}
use Rattle.wd_plan.specs.declared.expression.ValueKind.TheVariants.{Number, Text, Truth}
use Rattle.wd_plan.specs.declared.function.Aggregate.{Aggregate as AggregateFunction}
use Rattle.wd_plan.specs.declared.function.Aggregate.TheVariants.{Count, CountRows, Max, Min, Sum}
use Rattle.wd_plan.specs.declared.function.Direction.{Direction}
use Rattle.wd_plan.specs.declared.function.Direction.TheVariants.{Lag, Lead}
use Rattle.wd_plan.specs.declared.function.FrameFunction.{FrameFunction}
use Rattle.wd_plan.specs.declared.function.FrameFunction.TheVariants.{Aggregate, ValueAt}
use Rattle.wd_plan.specs.declared.function.FrameRow.TheVariants.{First, Last, Nth}
use Rattle.wd_plan.specs.declared.function.Function.{Function}
use Rattle.wd_plan.specs.declared.function.Function.TheVariants.{OfFrame, Ranking as Ranked, Shift as Shifted}
use Rattle.wd_plan.specs.declared.function.Ranking.{Ranking}
use Rattle.wd_plan.specs.declared.function.Ranking.TheVariants.{DenseRank, Ntile, Rank, RowNumber}
use Rattle.wd_plan.specs.declared.window.Frame.{Frame}
use Rattle.wd_plan.specs.Calls.{aggregate_value, call_value, column_values, first_by, frame_value, ranking_value, sum_of, total, value_away}
use Rattle.wd_plan.specs.Expressions.{Expression, Column, Literal, Negate, Arithmetic, Compare, Not, And, Or, IsNull, IsNotNull, Case, and_result, and_value, arithmetic, arithmetic_value, comparison, fits_64, in_64, is_true, negated, not_value, or_result, or_value, unless_zero, value_of}
use Rattle.wd_plan.specs.Faults.{and_then}
use Rattle.wd_plan.specs.Fits.{Kinds, are_alike, has_argument, has_literals, is_default, is_kind, is_of_kind, is_typed, kind_of, kind_of_function, result_kind, same_kind, takes}
use Rattle.wd_plan.specs.Frames.{frame_of, in_frame}
use Rattle.wd_plan.specs.Functions.{argument_of, name_of, name_of_direction, signature}
use Rattle.wd_plan.specs.Partitions.{group_of}
use Rattle.wd_plan.specs.Plans.{ClassRule}
use Rattle.wd_laws.specs.Laws.{IsOfKinds}
use Rattle.wd_plan.proofs.Parts.{all_filter}

-- a fact of the value, where there is one
abbrev pub Each : {X : Type 0} → (X → Type 0) → Result X Fault → Type 0
Each P (Ok x) = P x
Each P (Err fault) = Unit {0}

pub each_then : {X Y : Type 0} (P : Y → Type 0) (r : Result X Fault) (f : X → Result Y Fault) → ((x : X) → Each P (f x)) → Each P (and_then r f)
each_then P (Ok x) f h = h x
each_then P (Err fault) f h = tt

abbrev pub IsOf : ValueKind → Value → Type 0
IsOf kind v = is_of_kind kind v ≡ true

pub null_is_of : (kind : ValueKind) → is_of_kind kind Null ≡ true
null_is_of Number = refl
null_is_of Text = refl
null_is_of Truth = refl

kind_is : (a b : ValueKind) → Some a ≡ Some b → a ≡ b
kind_is a b e = cc

same_kind_is : (a b : ValueKind) → same_kind a b ≡ true → a ≡ b
same_kind_is Number Number e = refl
same_kind_is Number Text e = cc
same_kind_is Number Truth e = cc
same_kind_is Text Number e = cc
same_kind_is Text Text e = refl
same_kind_is Text Truth e = cc
same_kind_is Truth Number e = cc
same_kind_is Truth Text e = cc
same_kind_is Truth Truth e = refl

-- what is like a kind is that kind
alike_is : (kind : ValueKind) (a b : Option ValueKind) → are_alike a b ≡ true → a ≡ Some kind → b ≡ Some kind
alike_is kind None b e f = cc
alike_is kind (Some a) None e f = absurd (false≢true e)
alike_is kind (Some a) (Some b) e f = ap Some (sym (same_kind_is a b e)) ∙ f

default_is : (kind : ValueKind) (o : Option ValueKind) (v : Value) → is_default o v ≡ true → o ≡ Some kind → is_of_kind kind v ≡ true
default_is kind None v e f = cc
default_is kind (Some a) v e f = subst (λ k. is_of_kind k v ≡ true) (kind_is a kind f) e

-- ---- expressions

in_64_is : (n : ℤ) → Each (IsOf Number) (in_64 n)
in_64_is n = by (fits_64 n)
  where
    by : (b : Bool) → Each (IsOf Number) (cond b (Ok (Int n)) (Err OutOfRange))
    by true = refl
    by false = tt

negated_is : (v : Value) → Each (IsOf Number) (negated v)
negated_is Null = refl
negated_is (Int n) = in_64_is (neg_ℤ n)
negated_is (TextValue t) = refl
negated_is (TruthValue b) = refl

unless_zero_is : (n : ℤ) (r : Result Value Fault) → Each (IsOf Number) r → Each (IsOf Number) (unless_zero n r)
unless_zero_is (pos zero) r h = tt
unless_zero_is (pos (suc n)) r h = h
unless_zero_is (negsuc n) r h = h

whole_is : (op : ArithmeticOp) (m n : ℤ) → Each (IsOf Number) (arithmetic op m n)
whole_is Add m n = in_64_is (m +ℤ n)
whole_is Subtract m n = in_64_is (m -ℤ n)
whole_is Multiply m n = in_64_is (m *ℤ n)
whole_is Divide m n = unless_zero_is n (in_64 (int_div m n)) (in_64_is (int_div m n))
whole_is Remainder m n = unless_zero_is n (in_64 (int_rem m n)) (in_64_is (int_rem m n))

arithmetic_is : (op : ArithmeticOp) (v w : Value) → Each (IsOf Number) (arithmetic_value op v w)
arithmetic_is op (Int m) (Int n) = whole_is op m n
arithmetic_is op (Int m) Null = refl
arithmetic_is op (Int m) (TextValue t) = refl
arithmetic_is op (Int m) (TruthValue b) = refl
arithmetic_is op Null w = refl
arithmetic_is op (TextValue s) w = refl
arithmetic_is op (TruthValue a) w = refl

comparison_is : (op : ComparisonOp) (v w : Value) → IsOf Truth (comparison op v w)
comparison_is op Null w = refl
comparison_is op (Int m) Null = refl
comparison_is op (Int m) (Int n) = refl
comparison_is op (Int m) (TextValue t) = refl
comparison_is op (Int m) (TruthValue b) = refl
comparison_is op (TextValue s) Null = refl
comparison_is op (TextValue s) (Int n) = refl
comparison_is op (TextValue s) (TextValue t) = refl
comparison_is op (TextValue s) (TruthValue b) = refl
comparison_is op (TruthValue a) Null = refl
comparison_is op (TruthValue a) (Int n) = refl
comparison_is op (TruthValue a) (TextValue t) = refl
comparison_is op (TruthValue a) (TruthValue b) = refl

not_is : (v : Value) → IsOf Truth (not_value v)
not_is Null = refl
not_is (Int n) = refl
not_is (TextValue t) = refl
not_is (TruthValue b) = refl

and_is : (v w : Value) → IsOf Truth (and_value v w)
and_is (TruthValue false) w = refl
and_is (TruthValue true) (TruthValue b) = refl
and_is (TruthValue true) Null = refl
and_is (TruthValue true) (Int n) = refl
and_is (TruthValue true) (TextValue t) = refl
and_is Null (TruthValue false) = refl
and_is Null (TruthValue true) = refl
and_is Null Null = refl
and_is Null (Int n) = refl
and_is Null (TextValue t) = refl
and_is (Int m) (TruthValue false) = refl
and_is (Int m) (TruthValue true) = refl
and_is (Int m) Null = refl
and_is (Int m) (Int n) = refl
and_is (Int m) (TextValue t) = refl
and_is (TextValue s) (TruthValue false) = refl
and_is (TextValue s) (TruthValue true) = refl
and_is (TextValue s) Null = refl
and_is (TextValue s) (Int n) = refl
and_is (TextValue s) (TextValue t) = refl

or_is : (v w : Value) → IsOf Truth (or_value v w)
or_is (TruthValue true) w = refl
or_is (TruthValue false) (TruthValue b) = refl
or_is (TruthValue false) Null = refl
or_is (TruthValue false) (Int n) = refl
or_is (TruthValue false) (TextValue t) = refl
or_is Null (TruthValue true) = refl
or_is Null (TruthValue false) = refl
or_is Null Null = refl
or_is Null (Int n) = refl
or_is Null (TextValue t) = refl
or_is (Int m) (TruthValue true) = refl
or_is (Int m) (TruthValue false) = refl
or_is (Int m) Null = refl
or_is (Int m) (Int n) = refl
or_is (Int m) (TextValue t) = refl
or_is (TextValue s) (TruthValue true) = refl
or_is (TextValue s) (TruthValue false) = refl
or_is (TextValue s) Null = refl
or_is (TextValue s) (Int n) = refl
or_is (TextValue s) (TextValue t) = refl

and_result_is : (v : Value) (r : Result Value Fault) → Each (IsOf Truth) (and_result v r)
and_result_is (TruthValue false) r = refl
and_result_is (TruthValue true) r = each_then (IsOf Truth) r _ (λ w. and_is (TruthValue true) w)
and_result_is Null r = each_then (IsOf Truth) r _ (λ w. and_is Null w)
and_result_is (Int n) r = each_then (IsOf Truth) r _ (λ w. and_is (Int n) w)
and_result_is (TextValue t) r = each_then (IsOf Truth) r _ (λ w. and_is (TextValue t) w)

or_result_is : (v : Value) (r : Result Value Fault) → Each (IsOf Truth) (or_result v r)
or_result_is (TruthValue true) r = refl
or_result_is (TruthValue false) r = each_then (IsOf Truth) r _ (λ w. or_is (TruthValue false) w)
or_result_is Null r = each_then (IsOf Truth) r _ (λ w. or_is Null w)
or_result_is (Int n) r = each_then (IsOf Truth) r _ (λ w. or_is (Int n) w)
or_result_is (TextValue t) r = each_then (IsOf Truth) r _ (λ w. or_is (TextValue t) w)

either_is : (P : Value → Type 0) (b : Bool) (r s : Result Value Fault) → Each P r → Each P s → Each P (cond b r s)
either_is P true r s h g = h
either_is P false r s h g = g

pub as_kind : (a kind : ValueKind) (r : Result Value Fault) → Some a ≡ Some kind → Each (IsOf a) r → Each (IsOf kind) r
as_kind a kind r e h = subst (λ k. Each (IsOf k) r) (kind_is a kind e) h

-- a typed expression over a row of these kinds has a value of its kind, or a fault
pub value_is : (kinds : Kinds) (row : Row) → IsOfKinds kinds row → (e : Expression) → is_typed kinds e ≡ true → (kind : ValueKind) → kind_of kinds e ≡ Some kind → Each (IsOf kind) (value_of e row)
value_is kinds row is (Column c) typed kind e = is c kind e
value_is kinds row is (Literal v a) typed kind e = as_kind a kind (Ok v) e typed
value_is kinds row is (Negate a) typed kind e = as_kind Number kind (value_of (Negate a) row) e (each_then (IsOf Number) (value_of a row) negated negated_is)
value_is kinds row is (Arithmetic op a b) typed kind e = as_kind Number kind (value_of (Arithmetic op a b) row) e (each_then (IsOf Number) (value_of a row) _ (λ v. each_then (IsOf Number) (value_of b row) _ (λ w. arithmetic_is op v w)))
value_is kinds row is (Compare op a b) typed kind e = as_kind Truth kind (value_of (Compare op a b) row) e (each_then (IsOf Truth) (value_of a row) _ (λ v. each_then (IsOf Truth) (value_of b row) _ (λ w. comparison_is op v w)))
value_is kinds row is (Not a) typed kind e = as_kind Truth kind (value_of (Not a) row) e (each_then (IsOf Truth) (value_of a row) _ not_is)
value_is kinds row is (And a b) typed kind e = as_kind Truth kind (value_of (And a b) row) e (each_then (IsOf Truth) (value_of a row) _ (λ v. and_result_is v (value_of b row)))
value_is kinds row is (Or a b) typed kind e = as_kind Truth kind (value_of (Or a b) row) e (each_then (IsOf Truth) (value_of a row) _ (λ v. or_result_is v (value_of b row)))
value_is kinds row is (IsNull a) typed kind e = as_kind Truth kind (value_of (IsNull a) row) e (each_then (IsOf Truth) (value_of a row) _ (λ v. refl))
value_is kinds row is (IsNotNull a) typed kind e = as_kind Truth kind (value_of (IsNotNull a) row) e (each_then (IsOf Truth) (value_of a row) _ (λ v. refl))
value_is kinds row is (Case branch a b c) typed kind e =
    let parts = and_parts (is_typed kinds a && is_kind Truth (kind_of kinds a)) ((is_typed kinds b && is_typed kinds c) && are_alike (kind_of kinds b) (kind_of kinds c)) typed in
    let results = and_parts (is_typed kinds b && is_typed kinds c) (are_alike (kind_of kinds b) (kind_of kinds c)) parts.1 in
    let both_typed = and_parts (is_typed kinds b) (is_typed kinds c) results.0 in
    let first = value_is kinds row is b both_typed.0 kind e in
    let second = value_is kinds row is c both_typed.1 kind (alike_is kind (kind_of kinds b) (kind_of kinds c) results.1 e) in
    each_then (IsOf kind) (value_of a row) _ (λ v. either_is (IsOf kind) (is_true v) (value_of b row) (value_of c row) first second)

-- ---- lists of values and of rows

pub all_map : {X Y : Type 0} (P : X → Type 0) (Q : Y → Type 0) (f : X → Y) → ((x : X) → P x → Q (f x)) → (xs : List X) → AllByRecursion P xs → AllByRecursion Q (map f xs)
all_map P Q f h [] a = tt
all_map P Q f h (x ∷ xs) a = (h x a.0, all_map P Q f h xs a.1)

-- an element, or what stands for one past the end
pub at_any : {X : Type 0} (P : X → Type 0) (xs : List X) (i : ℕ) (d : X) → AllByRecursion P xs → P d → P (get_or xs i d)
at_any P [] i d a p = p
at_any P (x ∷ xs) zero d a p = a.0
at_any P (x ∷ xs) (suc i) d a p = at_any P xs i d a.1 p

at_any_reversed : {X : Type 0} (P : X → Type 0) (xs : List X) (d : X) → AllByRecursion P xs → P d → P (get_or (reverse xs) 0 d)
at_any_reversed P [] d a p = p
at_any_reversed P (x ∷ xs) d a p = subst P (sym (get_or-reverse (x ∷ xs) 0 d some)) (at_any P (x ∷ xs) (length (x ∷ xs) - 1 - 0) d a p)
  where
    some : 0 < length (x ∷ xs)
    some = omega arith

all_numbered : (P : Row → Type 0) (n : ℕ) (rows : List Row) → AllByRecursion P rows → AllByRecursion (λ (m : ℕ × Row). P m.1) (enumerate_from n rows)
all_numbered P n [] a = tt
all_numbered P n (r ∷ rows) a = (a.0, all_numbered P (n + 1) rows a.1)

all_in_frame : (P : Row → Type 0) (class : ClassRule) (frame : Frame) (partition : List Row) (i : ℕ) → AllByRecursion P partition → AllByRecursion P (frame_of class frame partition i)
all_in_frame P class frame partition i a =
    let t = λ (m : ℕ × Row). in_frame class frame (group_of class partition) i (row_at partition i) m.0 m.1 in
    all_map (λ (m : ℕ × Row). P m.1) P (λ m. m.1) (λ m p. p) (filter t (enumerate_from 0 partition))
    (all_filter t (λ (m : ℕ × Row). P m.1) (λ (m : ℕ × Row). P m.1) (λ m p e. p) (enumerate_from 0 partition) (all_numbered P 0 partition a))

pub empty_is : (kinds : Kinds) → IsOfKinds kinds []
empty_is kinds c kind e = null_is_of kind

-- rows at any positions, past the last too
pub rows_at_are : (kinds : Kinds) (rows : List Row) (ps : List ℕ) → AllByRecursion (IsOfKinds kinds) rows → AllByRecursion (IsOfKinds kinds) (rows_at rows ps)
rows_at_are kinds rows [] a = tt
rows_at_are kinds rows (p ∷ ps) a = (at_any (IsOfKinds kinds) rows p [] a (empty_is kinds), rows_at_are kinds rows ps a)

-- ---- calls

first_by_is : (P : Value → Type 0) (key : SortKey) (vs : List Value) → P Null → AllByRecursion P vs → P (first_by key vs)
first_by_is P key [] p a = p
first_by_is P key (v ∷ vs) p a = chosen (is_gt (compare key v (first_by key vs))) a.0 (first_by_is P key vs p a.1)
  where
    chosen : (b : Bool) → P v → P (first_by key vs) → P (cond b (first_by key vs) v)
    chosen true own rest = rest
    chosen false own rest = own

sum_is : (vs : List Value) → Each (IsOf Number) (sum_of vs)
sum_is vs = by _ (fits_64 (total vs))
  where
    by : (a b : Bool) → Each (IsOf Number) (cond a (cond b (Ok (Int (total vs))) (Err OutOfRange)) (Ok Null))
    by true true = refl
    by true false = tt
    by false b = refl

-- over rows of these kinds: the values of their columns, and those of functions of a frame
module _ (kinds : Kinds) (rows : List Row) (are : AllByRecursion (IsOfKinds kinds) rows) where
  values_are : (c : ℕ) (kind : ValueKind) → kinds c ≡ Some kind → AllByRecursion (IsOf kind) (column_values c rows)
  values_are c kind e = all_map (IsOfKinds kinds) (IsOf kind) (λ r. column_of r c) (λ r is. is c kind e) rows are

  pub aggregate_is : (a : AggregateFunction) (kind : ValueKind) → kind_of_function kinds (OfFrame (Aggregate a)) ≡ Some kind → Each (IsOf kind) (aggregate_value a rows)
  aggregate_is CountRows kind e = as_kind Number kind (aggregate_value CountRows rows) e refl
  aggregate_is (Count c) kind e = as_kind Number kind (aggregate_value (Count c) rows) e refl
  aggregate_is (Sum c) kind e = as_kind Number kind (aggregate_value (Sum c) rows) e (sum_is (column_values c rows))
  aggregate_is (Min c) kind e = first_by_is (IsOf kind) (record { desc = false; nulls_first = false }) (column_values c rows) (null_is_of kind) (values_are c kind e)
  aggregate_is (Max c) kind e = first_by_is (IsOf kind) (record { desc = true; nulls_first = false }) (column_values c rows) (null_is_of kind) (values_are c kind e)

  frame_value_is : (f : FrameFunction) (kind : ValueKind) → kind_of_function kinds (OfFrame f) ≡ Some kind → Each (IsOf kind) (frame_value f rows)
  frame_value_is (ValueAt First c) kind e = at_any (IsOf kind) (column_values c rows) 0 Null (values_are c kind e) (null_is_of kind)
  frame_value_is (ValueAt Last c) kind e = at_any_reversed (IsOf kind) (column_values c rows) Null (values_are c kind e) (null_is_of kind)
  frame_value_is (ValueAt (Nth n) c) kind e = at_any (IsOf kind) (column_values c rows) (n - 1) Null (values_are c kind e) (null_is_of kind)
  frame_value_is (Aggregate a) kind e = aggregate_is a kind e

ranking_is : (kinds : Kinds) (r : Ranking) (n : ℕ) (kind : ValueKind) → kind_of_function kinds (Ranked r) ≡ Some kind → IsOf kind (Int (pos n))
ranking_is kinds RowNumber n kind e = as_kind Number kind (Ok (Int (pos n))) e refl
ranking_is kinds Rank n kind e = as_kind Number kind (Ok (Int (pos n))) e refl
ranking_is kinds DenseRank n kind e = as_kind Number kind (Ok (Int (pos n))) e refl
ranking_is kinds (Ntile b) n kind e = as_kind Number kind (Ok (Int (pos n))) e refl

module _ (kinds : Kinds) (partition : List Row) (i : ℕ) (are : AllByRecursion (IsOfKinds kinds) partition) where
  member_is : (p c : ℕ) (kind : ValueKind) → kinds c ≡ Some kind → IsOf kind (column_of (row_at partition p) c)
  member_is p c kind e = at_any (IsOfKinds kinds) partition p [] are (empty_is kinds) c kind e

  member_or_default_is : (b : Bool) (p c : ℕ) (default : Value) (kind : ValueKind) → kinds c ≡ Some kind → is_default (kinds c) default ≡ true → IsOf kind (cond b (column_of (row_at partition p) c) default)
  member_or_default_is true p c default kind e own = member_is p c kind e
  member_or_default_is false p c default kind e own = default_is kind (kinds c) default own e

  value_away_is : (direction : Direction) (c k : ℕ) (default : Value) (kind : ValueKind) → result_kind (signature (name_of_direction direction)).result (kinds c) ≡ Some kind → is_default (kinds c) default ≡ true → IsOf kind (value_away direction c k default partition i)
  value_away_is Lag c k default kind e own = member_or_default_is (nat_le k i) (i - k) c default kind e own
  value_away_is Lead c k default kind e own = member_or_default_is (nat_lt (i + k) (length partition)) (i + k) c default kind e own

  -- a call with its arguments as they must be has a value of its kind, or a fault
  pub call_is : (class : ClassRule) (frame : Frame) (function : Function) → takes kinds function ≡ true → (kind : ValueKind) → kind_of_function kinds function ≡ Some kind → Each (IsOf kind) (call_value class frame function partition i)
  call_is class frame (Ranked r) own kind e = ranking_is kinds r (ranking_value class r partition i) kind e
  call_is class frame (Shifted s) own kind e =
      let literals = (and_parts (has_argument kinds (signature (name_of (Shifted s))).argument (argument_of (Shifted s))) (has_literals kinds (Shifted s)) own).1 in
      value_away_is s.direction s.argument s.offset s.default kind e literals
  call_is class frame (OfFrame f) own kind e = frame_value_is kinds (frame_of class frame partition i) (all_in_frame (IsOfKinds kinds) class frame partition i are) f kind e
