-- Conditions that no row meets.
use Rattle.std.proofs.Common.{◌≡◌, ℕ, ℤ, Bool, true, false, cond, not, ◌&&◌, ◌||◌, List, [], ◌∷◌, map, filter, refl, sym, ◌∙◌, ap, subst, arith, is_eq, is_lt, is_gt, int_cmp, Option, Some, None, Result, Ok}
use Rattle.std.specs.List.{AllByRecursion, list_any}
use Rattle.std.specs.Prelude.{int_le}
use Rattle.std.proofs.lemmas.Bool.{and_parts, false≢true, or_from, or_parts}
use Rattle.std.proofs.lemmas.Int.{ints}
use Rattle.wd_value.specs.declared.value.Fault.{Fault}
use Rattle.wd_value.specs.declared.value.Fault.TheVariants.{DivisionByZero, OutOfRange}
use Rattle.wd_value.specs.declared.value.Value.{Value}
use Rattle.wd_value.specs.declared.value.Value.TheVariants.{Null, Int, Text, Bool as Truth}
use Rattle.wd_value.specs.Rows.{Row, column_of}
use Rattle.wd_plan.specs.Expressions.{Expression, Column, Literal, Negate, Arithmetic, Compare, Not, And, Or, IsNull, IsNotNull, Case, and_result, and_value, comparison, holds, is_true, or_result, or_value, value_of}
use Rattle.wd_plan.specs.Faults.{and_then, has_fault, unless}
use Rattle.wd_plan.specs.Outcomes.{filter_outcome, passes}
use Rattle.wd_plan.specs.declared.expression.ComparisonOp.{ComparisonOp}
use Rattle.wd_plan.specs.declared.expression.ComparisonOp.TheVariants.{Equal, NotEqual, Less, LessOrEqual, Greater, GreaterOrEqual}
use Rattle.wd_step_facts.specs.Steps.{Side, Plain, Fixed, Other, side_of}
use Rattle.wd_scalar.proofs.Faultless.{HasValue, never_faults}
use Rattle.wd_scalar.specs.Arithmetic.{has_arithmetic}
use Rattle.wd_simpler.specs.Simpler.{all_below, all_up_to, allowing, is_false, is_false_value, is_never, is_unmet, never, never_at, never_compares, never_fixed, turned}
use Rattle.wd_simpler.specs.declared.numbers.Numbers.{Numbers}

-- ---- values among numbers

-- a number up to the greatest one, where there is one
abbrev pub is_up_to : Option ℤ → ℤ → Bool
is_up_to None n = true
is_up_to (Some greatest) n = int_le n greatest

-- one of the numbers, or NULL where it may stand among them
abbrev pub is_among : Option Numbers → Value → Bool
is_among None v = true
is_among (Some numbers) Null = numbers.nullable
is_among (Some numbers) (Int n) = int_le numbers.least n && is_up_to numbers.greatest n
is_among (Some numbers) (Text t) = false
is_among (Some numbers) (Truth b) = false

-- each value of a row is, in its column
abbrev pub IsAmong : (ℕ → Option Numbers) → Row → Type 0
IsAmong numbers row = (c : ℕ) → is_among (numbers c) (column_of row c) ≡ true

-- ---- comparisons

untrue_not : (b : Bool) → not b ≡ true → b ≡ false
untrue_not true h = absurd (false≢true h)
untrue_not false h = refl

-- two numbers that are not the same, either way round
record AreApart (m n : ℤ) : Type 0 where
  apart : is_eq (int_cmp m n) ≡ false
  turned : is_eq (int_cmp n m) ≡ false

apart_from : (low m n : ℤ) → int_le low m ≡ true → int_le low n ≡ false → AreApart m n
apart_from low m n h k = record { apart = grind (arith, ints); turned = grind (arith, ints) }

apart_up_to : (high m n : ℤ) → int_le m high ≡ true → int_le n high ≡ false → AreApart m n
apart_up_to high m n h k = record { apart = grind (arith, ints); turned = grind (arith, ints) }

equal_never : (greatest : Option ℤ) (low m n : ℤ) → int_le low m ≡ true → is_up_to greatest m ≡ true → (all_below greatest n || not (int_le low n)) ≡ true → AreApart m n
equal_never None low m n h k e = apart_from low m n h (untrue_not (int_le low n) e)
equal_never (Some high) low m n h k e = by (int_le n high) refl e
  where
    by : (b : Bool) → int_le n high ≡ b → (not b || not (int_le low n)) ≡ true → AreApart m n
    by true q e = apart_from low m n h (untrue_not (int_le low n) e)
    by false q e = apart_up_to high m n k q

less_never : (low m n : ℤ) → int_le low m ≡ true → int_le n low ≡ true → is_lt (int_cmp m n) ≡ false
less_never low m n h k = grind (arith, ints)

less_turned : (low m n : ℤ) → int_le low m ≡ true → int_le n low ≡ true → is_gt (int_cmp n m) ≡ false
less_turned low m n h k = grind (arith, ints)

less_or_equal_never : (low m n : ℤ) → int_le low m ≡ true → int_le low n ≡ false → not (is_gt (int_cmp m n)) ≡ false
less_or_equal_never low m n h k = grind (arith, ints)

less_or_equal_turned : (low m n : ℤ) → int_le low m ≡ true → int_le low n ≡ false → not (is_lt (int_cmp n m)) ≡ false
less_or_equal_turned low m n h k = grind (arith, ints)

greater_never : (greatest : Option ℤ) (m n : ℤ) → is_up_to greatest m ≡ true → all_up_to greatest n ≡ true → is_gt (int_cmp m n) ≡ false
greater_never None m n h k = absurd (false≢true k)
greater_never (Some high) m n h k = less_turned high n m k h

greater_turned : (greatest : Option ℤ) (m n : ℤ) → is_up_to greatest m ≡ true → all_up_to greatest n ≡ true → is_lt (int_cmp n m) ≡ false
greater_turned None m n h k = absurd (false≢true k)
greater_turned (Some high) m n h k = less_never high n m k h

greater_or_equal_never : (greatest : Option ℤ) (m n : ℤ) → is_up_to greatest m ≡ true → all_below greatest n ≡ true → not (is_lt (int_cmp m n)) ≡ false
greater_or_equal_never None m n h k = absurd (false≢true k)
greater_or_equal_never (Some high) m n h k = below high m n h (untrue_not (int_le n high) k)
  where
    below : (high m n : ℤ) → int_le m high ≡ true → int_le n high ≡ false → not (is_lt (int_cmp m n)) ≡ false
    below high m n h k = grind (arith, ints)

greater_or_equal_turned : (greatest : Option ℤ) (m n : ℤ) → is_up_to greatest m ≡ true → all_below greatest n ≡ true → not (is_gt (int_cmp n m)) ≡ false
greater_or_equal_turned None m n h k = absurd (false≢true k)
greater_or_equal_turned (Some high) m n h k = below high m n h (untrue_not (int_le n high) k)
  where
    below : (high m n : ℤ) → int_le m high ≡ true → int_le n high ≡ false → not (is_gt (int_cmp n m)) ≡ false
    below high m n h k = grind (arith, ints)

truth_of : (b : Bool) → b ≡ false → Truth b ≡ Truth false
truth_of b h = ap (λ x. Truth x) h

module _ (numbers : Numbers) (m n : ℤ) (is : is_among (Some numbers) (Int m) ≡ true) where
  from : int_le numbers.least m ≡ true
  from = (and_parts (int_le numbers.least m) (is_up_to numbers.greatest m) is).0

  up_to : is_up_to numbers.greatest m ≡ true
  up_to = (and_parts (int_le numbers.least m) (is_up_to numbers.greatest m) is).1

  no_order : (op : ComparisonOp) → never op numbers n ≡ true → comparison op (Int m) (Int n) ≡ Truth false
  no_order Equal k = truth_of _ (equal_never numbers.greatest numbers.least m n from up_to k).apart
  no_order NotEqual k = absurd (false≢true k)
  no_order Less k = truth_of _ (less_never numbers.least m n from k)
  no_order LessOrEqual k = truth_of _ (less_or_equal_never numbers.least m n from (untrue_not (int_le numbers.least n) k))
  no_order Greater k = truth_of _ (greater_never numbers.greatest m n up_to k)
  no_order GreaterOrEqual k = truth_of _ (greater_or_equal_never numbers.greatest m n up_to k)

  no_order_turned : (op : ComparisonOp) → never (turned op) numbers n ≡ true → comparison op (Int n) (Int m) ≡ Truth false
  no_order_turned Equal k = truth_of _ (equal_never numbers.greatest numbers.least m n from up_to k).turned
  no_order_turned NotEqual k = absurd (false≢true k)
  no_order_turned Less k = truth_of _ (greater_turned numbers.greatest m n up_to k)
  no_order_turned LessOrEqual k = truth_of _ (greater_or_equal_turned numbers.greatest m n up_to k)
  no_order_turned Greater k = truth_of _ (less_turned numbers.least m n from k)
  no_order_turned GreaterOrEqual k = truth_of _ (less_or_equal_turned numbers.least m n from (untrue_not (int_le numbers.least n) k))

-- a value of the column, and a literal: the comparison is FALSE, or NULL where that may stand there
abbrev IsFalseOr : Bool → Value → Type 0
IsFalseOr nullable Null = nullable ≡ true
IsFalseOr nullable (Int n) = ⊥
IsFalseOr nullable (Text t) = ⊥
IsFalseOr nullable (Truth b) = b ≡ false

null_beside : (op : ComparisonOp) (v : Value) → comparison op v Null ≡ Null
null_beside op Null = refl
null_beside op (Int n) = refl
null_beside op (Text t) = refl
null_beside op (Truth b) = refl

among_compared : (op : ComparisonOp) (numbers : Numbers) (x v : Value) → is_among (Some numbers) x ≡ true → never_at op (Some numbers) v ≡ true → IsFalseOr numbers.nullable (comparison op x v)
among_compared op numbers Null v h k = h
among_compared op numbers (Int m) (Int n) h k = subst (IsFalseOr numbers.nullable) (sym (no_order numbers m n h op k)) refl
among_compared op numbers (Int m) Null h k = absurd (false≢true k)
among_compared op numbers (Int m) (Text t) h k = absurd (false≢true k)
among_compared op numbers (Int m) (Truth b) h k = absurd (false≢true k)
among_compared op numbers (Text t) v h k = absurd (false≢true h)
among_compared op numbers (Truth b) v h k = absurd (false≢true h)

among_turned : (op : ComparisonOp) (numbers : Numbers) (x v : Value) → is_among (Some numbers) x ≡ true → never_at (turned op) (Some numbers) v ≡ true → IsFalseOr numbers.nullable (comparison op v x)
among_turned op numbers Null v h k = subst (IsFalseOr numbers.nullable) (sym (null_beside op v)) h
among_turned op numbers (Int m) (Int n) h k = subst (IsFalseOr numbers.nullable) (sym (no_order_turned numbers m n h op k)) refl
among_turned op numbers (Int m) Null h k = absurd (false≢true k)
among_turned op numbers (Int m) (Text t) h k = absurd (false≢true k)
among_turned op numbers (Int m) (Truth b) h k = absurd (false≢true k)
among_turned op numbers (Text t) v h k = absurd (false≢true h)
among_turned op numbers (Truth b) v h k = absurd (false≢true h)

false_or_null : (nullable : Bool) (w : Value) → IsFalseOr nullable w → IsFalseOr true w
false_or_null nullable Null h = refl
false_or_null nullable (Int n) h = h
false_or_null nullable (Text t) h = h
false_or_null nullable (Truth b) h = h

-- where NULL is allowed, and where it is not
allowed : (null : Bool) (never : Option Numbers → Bool) (w : Value) → never None ≡ false → (numbers : Option Numbers) → ((own : Numbers) → numbers ≡ Some own → never (Some own) ≡ true → IsFalseOr own.nullable w) → never (allowing null numbers) ≡ true → IsFalseOr null w
allowed true never w none None h k = absurd (false≢true (sym none ∙ k))
allowed false never w none None h k = absurd (false≢true (sym none ∙ k))
allowed true never w none (Some numbers) h k = false_or_null numbers.nullable w (h numbers refl k)
allowed false never w none (Some numbers) h k = by numbers.nullable (h numbers refl) k
  where
    by : (b : Bool) → (never (Some numbers) ≡ true → IsFalseOr b w) → never (cond b None (Some numbers)) ≡ true → IsFalseOr false w
    by true h k = absurd (false≢true (sym none ∙ k))
    by false h k = h k

module _ (op : ComparisonOp) (null : Bool) (numbers : Option Numbers) (x v : Value) (h : is_among numbers x ≡ true) where
  column_compared : never_at op (allowing null numbers) v ≡ true → IsFalseOr null (comparison op x v)
  column_compared k = allowed null (λ o. never_at op o v) (comparison op x v) refl numbers (λ own e. among_compared op own x v (subst (λ o. is_among o x ≡ true) e h)) k

  column_turned : never_at (turned op) (allowing null numbers) v ≡ true → IsFalseOr null (comparison op v x)
  column_turned k = allowed null (λ o. never_at (turned op) o v) (comparison op v x) refl numbers (λ own e. among_turned op own x v (subst (λ o. is_among o x ≡ true) e h)) k

-- two literals
fixed_false : (op : ComparisonOp) (v w : Value) → never_fixed op v w ≡ true → comparison op v w ≡ Truth false
fixed_false op (Int m) (Int n) h = truth_of _ (untrue_not (holds op (int_cmp m n)) h)
fixed_false op (Int m) Null h = absurd (false≢true h)
fixed_false op (Int m) (Text t) h = absurd (false≢true h)
fixed_false op (Int m) (Truth b) h = absurd (false≢true h)
fixed_false op Null w h = absurd (false≢true h)
fixed_false op (Text t) w h = absurd (false≢true h)
fixed_false op (Truth b) w h = absurd (false≢true h)

-- the value that a side shows
abbrev shown_at : Side → Row → Result Value Fault → Type 0
shown_at (Plain c) row r = r ≡ Ok (column_of row c)
shown_at (Fixed v) row r = r ≡ Ok v
shown_at Other row r = Unit {0}

side_shown : (e : Expression) (row : Row) → shown_at (side_of e) row (value_of e row)
side_shown (Column c) row = refl
side_shown (Literal v kind) row = refl
side_shown (Negate a) row = tt
side_shown (Arithmetic o a b) row = tt
side_shown (Compare o a b) row = tt
side_shown (Not a) row = tt
side_shown (And a b) row = tt
side_shown (Or a b) row = tt
side_shown (IsNull a) row = tt
side_shown (IsNotNull a) row = tt
side_shown (Case k a b c) row = tt

abbrev compare_results : ComparisonOp → Result Value Fault → Result Value Fault → Result Value Fault
compare_results op r s = and_then r (λ v. and_then s (λ w. Ok (comparison op v w)))

-- a comparison with a value, which is FALSE, or NULL where that is allowed
record Compared (null : Bool) (r : Result Value Fault) : Type 0 where
  value : Value
  is : r ≡ Ok value
  so : IsFalseOr null value

module _ (numbers : ℕ → Option Numbers) (row : Row) (among : IsAmong numbers row) (null : Bool) where
  abbrev Allowed : ℕ → Option Numbers
  Allowed c = allowing null (numbers c)

  sides_compared : (op : ComparisonOp) (s t : Side) (r q : Result Value Fault) → shown_at s row r → shown_at t row q → never_compares Allowed op s t ≡ true → Compared null (compare_results op r q)
  sides_compared op (Plain c) (Plain d) r q h k e = absurd (false≢true e)
  sides_compared op (Plain c) (Fixed v) r q h k e = record {
    value = comparison op (column_of row c) v;
    is = λ i. compare_results op (h i) (k i);
    so = column_compared op null (numbers c) (column_of row c) v (among c) e;
  }
  sides_compared op (Plain c) Other r q h k e = absurd (false≢true e)
  sides_compared op (Fixed v) (Plain c) r q h k e = record {
    value = comparison op v (column_of row c);
    is = λ i. compare_results op (h i) (k i);
    so = column_turned op null (numbers c) (column_of row c) v (among c) e;
  }
  sides_compared op (Fixed v) (Fixed w) r q h k e = record { value = Truth false; is = (λ i. compare_results op (h i) (k i)) ∙ ap (λ x. Ok x) (fixed_false op v w e); so = refl }
  sides_compared op (Fixed v) Other r q h k e = absurd (false≢true e)
  sides_compared op Other t r q h k e = absurd (false≢true e)

  compared : (op : ComparisonOp) (a b : Expression) → never_compares Allowed op (side_of a) (side_of b) ≡ true → Compared null (value_of (Compare op a b) row)
  compared op a b e = sides_compared op (side_of a) (side_of b) (value_of a row) (value_of b row) (side_shown a row) (side_shown b row) e

-- ---- AND and OR

no_and_left : (v w : Value) → is_true v ≡ false → is_true (and_value v w) ≡ false
no_and_left (Truth true) w h = absurd (false≢true (sym h))
no_and_left (Truth false) w h = refl
no_and_left Null Null h = refl
no_and_left Null (Int n) h = refl
no_and_left Null (Text t) h = refl
no_and_left Null (Truth true) h = refl
no_and_left Null (Truth false) h = refl
no_and_left (Int m) Null h = refl
no_and_left (Int m) (Int n) h = refl
no_and_left (Int m) (Text t) h = refl
no_and_left (Int m) (Truth true) h = refl
no_and_left (Int m) (Truth false) h = refl
no_and_left (Text s) Null h = refl
no_and_left (Text s) (Int n) h = refl
no_and_left (Text s) (Text t) h = refl
no_and_left (Text s) (Truth true) h = refl
no_and_left (Text s) (Truth false) h = refl

no_and_right : (v w : Value) → is_true w ≡ false → is_true (and_value v w) ≡ false
no_and_right (Truth true) (Truth b) h = h
no_and_right (Truth true) Null h = refl
no_and_right (Truth true) (Int n) h = refl
no_and_right (Truth true) (Text t) h = refl
no_and_right (Truth false) w h = refl
no_and_right Null w h = no_and_left Null w refl
no_and_right (Int m) w h = no_and_left (Int m) w refl
no_and_right (Text s) w h = no_and_left (Text s) w refl

no_or : (v w : Value) → is_true v ≡ false → is_true w ≡ false → is_true (or_value v w) ≡ false
no_or (Truth true) w h k = absurd (false≢true (sym h))
no_or (Truth false) (Truth b) h k = k
no_or (Truth false) Null h k = refl
no_or (Truth false) (Int n) h k = refl
no_or (Truth false) (Text t) h k = refl
no_or Null (Truth true) h k = absurd (false≢true (sym k))
no_or Null (Truth false) h k = refl
no_or Null Null h k = refl
no_or Null (Int n) h k = refl
no_or Null (Text t) h k = refl
no_or (Int m) (Truth true) h k = absurd (false≢true (sym k))
no_or (Int m) (Truth false) h k = refl
no_or (Int m) Null h k = refl
no_or (Int m) (Int n) h k = refl
no_or (Int m) (Text t) h k = refl
no_or (Text s) (Truth true) h k = absurd (false≢true (sym k))
no_or (Text s) (Truth false) h k = refl
no_or (Text s) Null h k = refl
no_or (Text s) (Int n) h k = refl
no_or (Text s) (Text t) h k = refl

-- where the left side is no FALSE, the right one is looked at
and_looked : (v w : Value) → and_result v (Ok w) ≡ Ok (and_value v w)
and_looked (Truth true) w = refl
and_looked (Truth false) w = refl
and_looked Null w = refl
and_looked (Int n) w = refl
and_looked (Text t) w = refl

or_looked : (v w : Value) → or_result v (Ok w) ≡ Ok (or_value v w)
or_looked (Truth true) w = refl
or_looked (Truth false) w = refl
or_looked Null w = refl
or_looked (Int n) w = refl
or_looked (Text t) w = refl

-- ---- conditions that no row meets

-- a value that is not true
pub record IsUntrue (r : Result Value Fault) : Type 0 where
  pub value : Value
  pub is : r ≡ Ok value
  pub untrue : is_true value ≡ false

untrue_value : (v : Value) → IsFalseOr true v → is_true v ≡ false
untrue_value Null h = refl
untrue_value (Int n) h = absurd h
untrue_value (Text t) h = absurd h
untrue_value (Truth true) h = absurd (false≢true (sym h))
untrue_value (Truth false) h = refl

and_untrue : (r s : Result Value Fault) → HasValue r → HasValue s → (x y : Bool) → (x ≡ true → IsUntrue s) → (y ≡ true → IsUntrue r) → (x || y) ≡ true → IsUntrue (and_then r (λ v. and_result v s))
and_untrue r s v w true y right left h =
    let u = right refl in
    record { value = and_value v.0 u.value; is = (λ i. and_then (v.1 i) (λ x. and_result x (u.is i))) ∙ and_looked v.0 u.value; untrue = no_and_right v.0 u.value u.untrue }
and_untrue r s v w false y right left h =
    let u = left h in
    record { value = and_value u.value w.0; is = (λ i. and_then (u.is i) (λ x. and_result x (w.1 i))) ∙ and_looked u.value w.0; untrue = no_and_left u.value w.0 u.untrue }

or_untrue : (r s : Result Value Fault) → IsUntrue r → IsUntrue s → IsUntrue (and_then r (λ v. or_result v s))
or_untrue r s u w = record { value = or_value u.value w.value; is = (λ i. and_then (u.is i) (λ x. or_result x (w.is i))) ∙ or_looked u.value w.value; untrue = no_or u.value w.value u.untrue w.untrue }

module _ (numbers : ℕ → Option Numbers) (row : Row) (among : IsAmong numbers row) where
  untrue : (e : Expression) → has_arithmetic e ≡ false → is_never numbers e ≡ true → IsUntrue (value_of e row)
  untrue (Column c) h k = absurd (false≢true k)
  untrue (Literal v kind) h k = record { value = v; is = refl; untrue = untrue_not (is_true v) k }
  untrue (Negate a) h k = absurd (false≢true k)
  untrue (Arithmetic o a b) h k = absurd (false≢true k)
  untrue (Compare o a b) h k =
      let c = compared numbers row among true o a b k in
      record { value = c.value; is = c.is; untrue = untrue_value c.value c.so }
  untrue (Not a) h k = absurd (false≢true k)
  untrue (And a b) h k =
      let parts = or_parts (has_arithmetic a) (has_arithmetic b) h in
      and_untrue (value_of a row) (value_of b row) (never_faults a row parts.0) (never_faults b row parts.1) (is_never numbers b) (is_never numbers a) (untrue b parts.1) (untrue a parts.0) k
  untrue (Or a b) h k =
      let parts = or_parts (has_arithmetic a) (has_arithmetic b) h in
      let nevers = and_parts (is_never numbers b) (is_never numbers a) k in
      or_untrue (value_of a row) (value_of b row) (untrue a parts.0 nevers.1) (untrue b parts.1 nevers.0)
  untrue (IsNull a) h k = absurd (false≢true k)
  untrue (IsNotNull a) h k = absurd (false≢true k)
  untrue (Case o a b c) h k = absurd (false≢true k)

-- a FALSE side of an AND that is looked at
false_right : (v : Value) → and_value v (Truth false) ≡ Truth false
false_right (Truth true) = refl
false_right (Truth false) = refl
false_right Null = refl
false_right (Int n) = refl
false_right (Text t) = refl

and_false : (r s : Result Value Fault) (x y z : Bool) → (x ≡ true → r ≡ Ok (Truth false)) → (y ≡ false → HasValue r) → (z ≡ true → s ≡ Ok (Truth false)) → (x || (not y && z)) ≡ true → and_then r (λ v. and_result v s) ≡ Ok (Truth false)
and_false r s true y z left has right h = ap (λ q. and_then q (λ v. and_result v s)) (left refl)
and_false r s false true z left has right h = absurd (false≢true h)
and_false r s false false z left has right h =
    let v = has refl in
    (λ i. and_then (v.1 i) (λ x. and_result x (right h i))) ∙ and_looked v.0 (Truth false) ∙ ap (λ x. Ok x) (false_right v.0)

is_false_there : (v : Value) → IsFalseOr false v → v ≡ Truth false
is_false_there Null h = absurd (false≢true h)
is_false_there (Int n) h = absurd h
is_false_there (Text t) h = absurd h
is_false_there (Truth b) h = truth_of b h

false_value : (v : Value) → is_false_value v ≡ true → v ≡ Truth false
false_value (Truth b) h = ap (λ x. Truth x) (untrue_not b h)
false_value Null h = absurd (false≢true h)
false_value (Int n) h = absurd (false≢true h)
false_value (Text t) h = absurd (false≢true h)

module _ (numbers : ℕ → Option Numbers) (row : Row) (among : IsAmong numbers row) where
  falls : (e : Expression) → is_false numbers e ≡ true → value_of e row ≡ Ok (Truth false)
  falls (Column c) k = absurd (false≢true k)
  falls (Literal v kind) k = ap (λ x. Ok x) (false_value v k)
  falls (Negate a) k = absurd (false≢true k)
  falls (Arithmetic o a b) k = absurd (false≢true k)
  falls (Compare o a b) k = let c = compared numbers row among false o a b k in c.is ∙ ap (λ x. Ok x) (is_false_there c.value c.so)
  falls (Not a) k = absurd (false≢true k)
  falls (And a b) k = and_false (value_of a row) (value_of b row) (is_false numbers a) (has_arithmetic a) (is_false numbers b) (falls a) (never_faults a row) (falls b) k
  falls (Or a b) k = absurd (false≢true k)
  falls (IsNull a) k = absurd (false≢true k)
  falls (IsNotNull a) k = absurd (false≢true k)
  falls (Case o a b c) k = absurd (false≢true k)

  unmet : (e : Expression) → is_unmet numbers e ≡ true → IsUntrue (value_of e row)
  unmet e = by (not (has_arithmetic e) && is_never numbers e) refl
    where
      by : (b : Bool) → (not (has_arithmetic e) && is_never numbers e) ≡ b → (b || is_false numbers e) ≡ true → IsUntrue (value_of e row)
      by true h k =
          let parts = and_parts (not (has_arithmetic e)) (is_never numbers e) h in
          untrue numbers row among e (untrue_not (has_arithmetic e) parts.0) parts.1
      by false h k = record { value = Truth false; is = falls e k; untrue = refl }

-- a condition that no row meets keeps none, and has no fault
module _ (condition : Expression) where
  abbrev pub IsUnmetAt : Row → Type 0
  IsUnmetAt row = IsUntrue (value_of condition row)

  no_fault : (fault : Fault) (v : Value) → has_fault fault (Ok v) ≡ false
  no_fault DivisionByZero v = refl
  no_fault OutOfRange v = refl

  no_faults : (fault : Fault) (rows : List Row) → AllByRecursion IsUnmetAt rows → list_any (has_fault fault) (map (value_of condition) rows) ≡ false
  no_faults fault [] a = refl
  no_faults fault (row ∷ rows) a = or_from _ _ (ap (has_fault fault) a.0.is ∙ no_fault fault a.0.value) (no_faults fault rows a.1)

  none_pass : (rows : List Row) → AllByRecursion IsUnmetAt rows → filter (λ row. passes (value_of condition row)) rows ≡ []
  none_pass [] a = refl
  none_pass (row ∷ rows) a = ap (λ b. cond b (row ∷ filter (λ row. passes (value_of condition row)) rows) (filter (λ row. passes (value_of condition row)) rows)) (ap passes a.0.is ∙ a.0.untrue) ∙ none_pass rows a.1

  pub keeps_none : (rows : List Row) → AllByRecursion IsUnmetAt rows → filter_outcome condition rows ≡ Ok []
  keeps_none rows a =
      (λ i. unless (cond (no_faults DivisionByZero rows a i) (Some DivisionByZero) (cond (no_faults OutOfRange rows a i) (Some OutOfRange) None)) (none_pass rows a i))

pub all_unmet : (numbers : ℕ → Option Numbers) (condition : Expression) → is_unmet numbers condition ≡ true → (rows : List Row) → AllByRecursion (IsAmong numbers) rows → AllByRecursion (IsUnmetAt condition) rows
all_unmet numbers condition h [] a = tt
all_unmet numbers condition h (row ∷ rows) a = (unmet numbers row a.0 condition h, all_unmet numbers condition h rows a.1)
