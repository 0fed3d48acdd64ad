-- Expressions as pure data, and their values over a row (SQL, value expression, search condition, case expression). A column past a
-- row's last is NULL; no plan that fits has one.
use Rattle.std.specs.Prelude.{ℕ, zero, ◌-◌, ◌^◌, ℤ, pos, negsuc, ◌+ℤ◌, ◌-ℤ◌, ◌*ℤ◌, neg_ℤ, int_le, int_div, int_rem, Bool, true, false, not, ◌&&◌, Result, Ok, Err, if◌then◌else◌}
use Rattle.std.specs.Ordering.{is_lt, is_gt, is_eq}
use Rattle.std.specs.declared.cmp.Ordering.{Ordering}
use Rattle.wd_value.specs.declared.value.Value.{Value}
use Rattle.wd_value.specs.declared.value.Value.TheVariants.{Null, Int, Text, Bool as Truth}
use Rattle.wd_value.specs.declared.value.Fault.{Fault}
use Rattle.wd_value.specs.declared.value.Fault.TheVariants.{DivisionByZero, OutOfRange}
use Rattle.wd_value.specs.Order.{compare_ascending}
use Rattle.wd_value.specs.Rows.{Row, column_of}
use Rattle.wd_plan.specs.Faults.{and_then}
use Rattle.wd_plan.specs.declared.expression.ValueKind.{ValueKind}
use Rattle.wd_plan.specs.declared.expression.ArithmeticOp.{ArithmeticOp}
use Rattle.wd_plan.specs.declared.expression.ArithmeticOp.TheVariants.{Add, Subtract, Multiply, Divide, Remainder}
use Rattle.wd_plan.specs.declared.expression.ComparisonOp.{ComparisonOp}
use Rattle.wd_plan.specs.declared.expression.ComparisonOp.TheVariants.{Equal, NotEqual, Less, LessOrEqual, Greater, GreaterOrEqual}
use Rattle.wd_plan.specs.declared.expression.Branch.{Branch}
use Rattle.wd_plan.specs.declared.expression.Expr.{Expr}
use Rattle.wd_plan.specs.declared.expression.Expr.TheVariants as code

pub data Expression : Type 0 where
  -- a column of the row, by its number
  Column : ℕ → Expression
  Literal : Value → ValueKind → Expression
  Negate : Expression → Expression
  Arithmetic : ArithmeticOp → Expression → Expression → Expression
  Compare : ComparisonOp → Expression → Expression → Expression
  Not : Expression → Expression
  And : Expression → Expression → Expression
  Or : Expression → Expression → Expression
  IsNull : Expression → Expression
  IsNotNull : Expression → Expression
  -- a branch of a CASE: its condition, its result, and the rest, which is the next branch or the operand of ELSE
  Case : Branch → Expression → Expression → Expression → Expression

-- the expression that a value of the code shows
abbrev pub expression_of : Expr → Expression
expression_of (code.Column c) = Column c
expression_of (code.Literal v kind) = Literal v kind
expression_of (code.Negate' p a) = Negate (expression_of a)
expression_of (code.Arithmetic' op p a q b) = Arithmetic op (expression_of a) (expression_of b)
expression_of (code.Compare' op p a q b) = Compare op (expression_of a) (expression_of b)
expression_of (code.Not' p a) = Not (expression_of a)
expression_of (code.And' p a q b) = And (expression_of a) (expression_of b)
expression_of (code.Or' p a q b) = Or (expression_of a) (expression_of b)
expression_of (code.IsNull' p a) = IsNull (expression_of a)
expression_of (code.IsNotNull' p a) = IsNotNull (expression_of a)
expression_of (code.Case' branch p a q b r c) = Case branch (expression_of a) (expression_of b) (expression_of c)

-- ---- whole numbers

-- whether 64 bits hold the number
abbrev pub fits_64 : ℤ → Bool
fits_64 n = int_le (negsuc (2 ^ 63 - 1)) n && int_le n (pos (2 ^ 63 - 1))

-- the whole number, or a fault where 64 bits don't hold it
abbrev pub in_64 : ℤ → Result Value Fault
in_64 n = if fits_64 n then Ok (Int n) else Err OutOfRange

-- a divisor that is zero is a fault
abbrev pub unless_zero : ℤ → Result Value Fault → Result Value Fault
unless_zero (pos zero) result = Err DivisionByZero
unless_zero divisor result = result

-- division truncates toward zero, and the remainder has the dividend's sign
abbrev pub arithmetic : ArithmeticOp → ℤ → ℤ → Result Value Fault
arithmetic Add m n = in_64 (m +ℤ n)
arithmetic Subtract m n = in_64 (m -ℤ n)
arithmetic Multiply m n = in_64 (m *ℤ n)
arithmetic Divide m n = unless_zero n (in_64 (int_div m n))
arithmetic Remainder m n = unless_zero n (in_64 (int_rem m n))

-- a NULL operand makes the value NULL, even with a zero divisor
abbrev pub arithmetic_value : ArithmeticOp → Value → Value → Result Value Fault
arithmetic_value op (Int m) (Int n) = arithmetic op m n
arithmetic_value op a b = Ok Null

abbrev pub negated : Value → Result Value Fault
negated (Int n) = in_64 (neg_ℤ n)
negated a = Ok Null

-- ---- comparisons and truth values, which have a third value, NULL

abbrev pub holds : ComparisonOp → Ordering → Bool
holds Equal order = is_eq order
holds NotEqual order = not (is_eq order)
holds Less order = is_lt order
holds LessOrEqual order = not (is_gt order)
holds Greater order = is_gt order
holds GreaterOrEqual order = not (is_lt order)

-- a NULL side makes the comparison NULL
abbrev pub comparison : ComparisonOp → Value → Value → Value
comparison op Null b = Null
comparison op a Null = Null
comparison op a b = Truth (holds op (compare_ascending a b))

abbrev pub is_null : Value → Bool
is_null Null = true
is_null (Int n) = false
is_null (Text bytes) = false
is_null (Truth b) = false

abbrev pub is_true : Value → Bool
is_true (Truth true) = true
is_true (Truth false) = false
is_true Null = false
is_true (Int n) = false
is_true (Text bytes) = false

abbrev pub not_value : Value → Value
not_value (Truth b) = Truth (not b)
not_value a = Null

abbrev pub and_value : Value → Value → Value
and_value (Truth false) b = Truth false
and_value (Truth true) (Truth b) = Truth b
and_value (Truth true) b = Null
and_value a (Truth false) = Truth false
and_value a b = Null

abbrev pub or_value : Value → Value → Value
or_value (Truth true) b = Truth true
or_value (Truth false) (Truth b) = Truth b
or_value (Truth false) b = Null
or_value a (Truth true) = Truth true
or_value a b = Null

-- where the left side of an AND is false, the right side is not evaluated
abbrev pub and_result : Value → Result Value Fault → Result Value Fault
and_result (Truth false) right = Ok (Truth false)
and_result a right = and_then right (λ b. Ok (and_value a b))

-- nor is the right side of an OR whose left side is true
abbrev pub or_result : Value → Result Value Fault → Result Value Fault
or_result (Truth true) right = Ok (Truth true)
or_result a right = and_then right (λ b. Ok (or_value a b))

-- ---- the value of an expression

-- The value of an expression over a row, or its fault. Operands are evaluated from left to right, and the first fault is the
-- expression's; of a CASE only the parts that are reached are evaluated.
abbrev pub value_of : Expression → Row → Result Value Fault
value_of (Column c) row = Ok (column_of row c)
value_of (Literal v kind) row = Ok v
value_of (Negate a) row = and_then (value_of a row) negated
value_of (Arithmetic op a b) row = and_then (value_of a row) (λ v. and_then (value_of b row) (λ w. arithmetic_value op v w))
value_of (Compare op a b) row = and_then (value_of a row) (λ v. and_then (value_of b row) (λ w. Ok (comparison op v w)))
value_of (Not a) row = and_then (value_of a row) (λ v. Ok (not_value v))
value_of (And a b) row = and_then (value_of a row) (λ v. and_result v (value_of b row))
value_of (Or a b) row = and_then (value_of a row) (λ v. or_result v (value_of b row))
value_of (IsNull a) row = and_then (value_of a row) (λ v. Ok (Truth (is_null v)))
value_of (IsNotNull a) row = and_then (value_of a row) (λ v. Ok (Truth (not (is_null v))))
value_of (Case branch a b c) row = and_then (value_of a row) (λ v. if is_true v then value_of b row else value_of c row)
