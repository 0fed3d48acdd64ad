-- What an expression means as an operand, and the types that operators require (SQL, value expression, search condition; PG, Value
-- Expressions).
use Rattle.std.specs.Prelude.{ℕ, ◌^◌, ℤ, pos, neg_ℤ, Bool, true, false, List, [], ◌∷◌, ◌++◌, map, nat_lt, nat_le, Ok, Err, if◌then◌else◌}
use Rattle.wd_value.specs.declared.value.Value.TheVariants.{Null, Int, Text as TextValue, Bool as TruthValue}
use Rattle.wd_syntax.specs.declared.expression.Literal.{Literal}
use Rattle.wd_syntax.specs.declared.expression.Literal.TheVariants as l
use Rattle.wd_syntax.specs.declared.expression.Operator.{Operator}
use Rattle.wd_syntax.specs.declared.expression.Operator.TheVariants as o
use Rattle.wd_syntax.specs.declared.expression.Sign.{Sign}
use Rattle.wd_syntax.specs.declared.expression.Sign.TheVariants as s
use Rattle.wd_plan.specs.declared.expression.ValueKind.{ValueKind}
use Rattle.wd_plan.specs.declared.expression.ValueKind.TheVariants.{Number, Text, Truth}
use Rattle.wd_plan.specs.declared.expression.ArithmeticOp.TheVariants as arithmetic
use Rattle.wd_plan.specs.declared.expression.ComparisonOp.TheVariants as comparison
use Rattle.wd_plan.specs.declared.expression.Branch.{Branch}
use Rattle.wd_plan.specs.declared.expression.Branch.TheVariants.{First, Later}
use Rattle.wd_plan.specs.Fits.{same_kind}
use Rattle.wd_resolve_operand.specs.declared.cause.Cause.TheVariants.{Types}
use Rattle.wd_resolve_operand.specs.declared.operand.TypedOperand.{TypedOperand}
use Rattle.wd_resolve_operand.specs.declared.operand.TypedOperand.TheVariants as code
use Rattle.wd_resolve_operand.specs.declared.operator.CaseArm.{CaseArm}
use Rattle.wd_resolve_operand.specs.Causes.{Meant, ◌>>=◌}
use Rattle.wd_resolve_operand.specs.BoundExpressions as f
use Rattle.wd_resolve_operand.specs.BoundExpressions.{BoundExpression, bound_expression_of}

-- a bare NULL, whose kind its place decides, or an expression and the kind of its values
pub data Operand (L : Type 0) : Type 0 where
  bare_null : Operand L
  typed : BoundExpression L → ValueKind → Operand L

-- the operand that a value of the code shows, by what its references show
abbrev pub operand_of : {C L : Type 0} → (C → L) → TypedOperand C → Operand L
operand_of shown code.Null = bare_null
operand_of shown (code.Typed a kind) = typed (bound_expression_of shown a.value) kind

-- ---- the kind that a place requires

-- an operand in a place that requires a kind: a bare NULL takes it, and any other operand has to have it
abbrev pub of_kind : {L : Type 0} → ValueKind → Operand L → Meant (BoundExpression L)
of_kind kind bare_null = Ok (f.Literal Null kind)
of_kind kind (typed a other) = if same_kind kind other then Ok a else Err Types

-- an operand in a place that requires none: a bare NULL is a text (this project's choice)
abbrev pub kind_of : {L : Type 0} → Operand L → ValueKind
kind_of bare_null = Text
kind_of (typed a kind) = kind

abbrev pub settled : {L : Type 0} → Operand L → BoundExpression L
settled bare_null = f.Literal Null Text
settled (typed a kind) = a

-- several operands have the kind of the first of them that is not a bare NULL (this project's choice)
abbrev pub asked_by_all : {L : Type 0} → List (Operand L) → ValueKind
asked_by_all [] = Text
asked_by_all (bare_null ∷ operands) = asked_by_all operands
asked_by_all (typed a kind ∷ operands) = kind

abbrev pub kind_of_both : {L : Type 0} → Operand L → Operand L → ValueKind
kind_of_both a b = asked_by_all (a ∷ b ∷ [])

-- ---- literals

-- a number below 2^63; any other is of a wrong type
abbrev pub number : ℕ → Meant ℕ
number n = if nat_lt n (2 ^ 63) then Ok n else Err Types

-- a whole number as a literal
abbrev pub int_literal : {L : Type 0} → ℤ → Meant (Operand L)
int_literal n = Ok (typed (f.Literal (Int n) Number) Number)

-- a number without a sign
abbrev pub unsigned_number : {L : Type 0} → ℕ → Meant (Operand L)
unsigned_number n = number n >>= λ m. int_literal (pos m)

abbrev pub literal : {L : Type 0} → Literal → Meant (Operand L)
literal (l.Number n) = unsigned_number n
literal (l.Text text) = Ok (typed (f.Literal (TextValue text) Text) Text)
literal (l.Truth b) = Ok (typed (f.Literal (TruthValue b) Truth) Truth)
literal l.Null = Ok bare_null

-- a sign directly before a number makes a literal: 9223372036854775808 is allowed only after a minus
abbrev pub signed_number : {L : Type 0} → Sign → ℕ → Meant (Operand L)
signed_number s.Plus n = unsigned_number n
signed_number s.Minus n = if nat_le n (2 ^ 63) then int_literal (neg_ℤ (pos n)) else Err Types

-- ---- operators

-- a plus adds no node
abbrev pub sign_over : {L : Type 0} → Sign → BoundExpression L → BoundExpression L
sign_over s.Plus a = a
sign_over s.Minus a = f.Negate a

abbrev pub signed : {L : Type 0} → Sign → Operand L → Meant (Operand L)
signed sign a = of_kind Number a >>= λ inner. Ok (typed (sign_over sign inner) Number)

abbrev pub negated : {L : Type 0} → Operand L → Meant (Operand L)
negated a = of_kind Truth a >>= λ inner. Ok (typed (f.Not inner) Truth)

-- IS NULL, or IS NOT NULL where true
abbrev pub null_test : {L : Type 0} → Bool → BoundExpression L → BoundExpression L
null_test true a = f.IsNotNull a
null_test false a = f.IsNull a

abbrev pub tested : {L : Type 0} → Bool → Operand L → Operand L
tested not a = typed (null_test not (settled a)) Truth

-- the kind that an operator requires of both operands: a comparison takes two sides of one kind
abbrev pub operand_kind : {L : Type 0} → Operator → Operand L → Operand L → ValueKind
operand_kind o.Or a b = Truth
operand_kind o.And a b = Truth
operand_kind o.Add a b = Number
operand_kind o.Subtract a b = Number
operand_kind o.Multiply a b = Number
operand_kind o.Divide a b = Number
operand_kind o.Remainder a b = Number
operand_kind operator a b = kind_of_both a b

-- the kind of an operator's values
abbrev pub result_kind : Operator → ValueKind
result_kind o.Add = Number
result_kind o.Subtract = Number
result_kind o.Multiply = Number
result_kind o.Divide = Number
result_kind o.Remainder = Number
result_kind operator = Truth

-- an operator over two expressions
abbrev pub over_both : {L : Type 0} → Operator → BoundExpression L → BoundExpression L → BoundExpression L
over_both o.Or a b = f.Or a b
over_both o.And a b = f.And a b
over_both o.Equal a b = f.Compare comparison.Equal a b
over_both o.NotEqual a b = f.Compare comparison.NotEqual a b
over_both o.Less a b = f.Compare comparison.Less a b
over_both o.LessOrEqual a b = f.Compare comparison.LessOrEqual a b
over_both o.Greater a b = f.Compare comparison.Greater a b
over_both o.GreaterOrEqual a b = f.Compare comparison.GreaterOrEqual a b
over_both o.Add a b = f.Arithmetic arithmetic.Add a b
over_both o.Subtract a b = f.Arithmetic arithmetic.Subtract a b
over_both o.Multiply a b = f.Arithmetic arithmetic.Multiply a b
over_both o.Divide a b = f.Arithmetic arithmetic.Divide a b
over_both o.Remainder a b = f.Arithmetic arithmetic.Remainder a b

-- an operator over two operands of the kind that it requires
abbrev pub combined : {L : Type 0} → Operator → Operand L → Operand L → Meant (Operand L)
combined operator a b = do
  left ← of_kind (operand_kind operator a b) a
  right ← of_kind (operand_kind operator a b) b
  Ok (typed (over_both operator left right) (result_kind operator))

-- ---- CASE

-- a condition and a result
abbrev pub arm_of : {C L : Type 0} → (C → L) → CaseArm C → Operand L × Operand L
arm_of shown arm = (operand_of shown arm.when, operand_of shown arm.gives)

-- WHEN a truth value THEN a result of this kind, followed by the rest; a wrong type is the only cause in either
abbrev pub arm_over : {L : Type 0} → Branch → ValueKind → Operand L × Operand L → Meant (BoundExpression L) → Meant (BoundExpression L)
arm_over branch kind arm rest = do
  otherwise ← rest
  when ← of_kind Truth arm.0
  gives ← of_kind kind arm.1
  Ok (f.Case branch when gives otherwise)

-- the branches of a CASE from this one on, followed by its rest
abbrev pub arms_over : {L : Type 0} → Branch → ValueKind → List (Operand L × Operand L) → Meant (BoundExpression L) → Meant (BoundExpression L)
arms_over branch kind [] rest = rest
arms_over branch kind (arm ∷ arms) rest = arm_over branch kind arm (arms_over Later kind arms rest)

-- the branch that comes after these arms
abbrev pub branch_after : {L : Type 0} → Branch → List (Operand L × Operand L) → Branch
branch_after branch [] = branch
branch_after branch (arm ∷ arms) = Later

-- the kind of the results of a CASE
abbrev pub case_kind : {L : Type 0} → List (Operand L × Operand L) → Operand L → ValueKind
case_kind arms other = asked_by_all (map (λ arm. arm.1) arms ++ other ∷ [])

-- a CASE is checked after all its parts
abbrev pub case_of : {L : Type 0} → List (Operand L × Operand L) → Operand L → Meant (Operand L)
case_of arms other = of_kind (case_kind arms other) other >>= λ rest. arms_over First (case_kind arms other) arms (Ok rest) >>= λ whole. Ok (typed whole (case_kind arms other))
