-- Expressions over references: what an expression reads of a row is a reference, as a column of FROM or a window call (SQL, value
-- expression primary).
use Rattle.std.specs.Prelude.{ℕ, Bool, false, ◌&&◌, List, [], ◌∷◌, ◌++◌, Option, Some, is_some, Ok}
use denote.Enum.Bare.{sameb}
use Rattle.wd_value.specs.declared.value.Value.{Value}
use Rattle.wd_value.specs.Values.{same}
use Rattle.wd_plan.specs.declared.expression.ValueKind.{ValueKind}
use Rattle.wd_plan.specs.declared.expression.ValueKind.TheVariants.{Number, Truth}
use Rattle.wd_plan.specs.declared.expression.ArithmeticOp.{ArithmeticOp}
use Rattle.wd_plan.specs.declared.expression.ComparisonOp.{ComparisonOp}
use Rattle.wd_plan.specs.declared.expression.Branch.{Branch}
use Rattle.wd_plan.specs.contracts.expression.ArithmeticOp.{the_type as operation}
use Rattle.wd_plan.specs.contracts.expression.ComparisonOp.{the_type as comparison}
use Rattle.wd_plan.specs.contracts.expression.Branch.{the_type as branches}
use Rattle.wd_plan.specs.Expressions as e
use Rattle.wd_plan.specs.Expressions.{Expression}
use Rattle.wd_plan.specs.Fits.{are_alike, is_kind, is_of_kind, same_kind}
use Rattle.wd_resolve_operand.specs.Causes.{Meant, ◌>>=◌}
use Rattle.wd_resolve_operand.specs.declared.expression.BoundExpression.{BoundExpression as Code}
use Rattle.wd_resolve_operand.specs.declared.expression.BoundExpression.TheVariants as code

pub data BoundExpression (L : Type 0) : Type 0 where
  Reference : L → BoundExpression L
  Literal : Value → ValueKind → BoundExpression L
  Negate : BoundExpression L → BoundExpression L
  Arithmetic : ArithmeticOp → BoundExpression L → BoundExpression L → BoundExpression L
  Compare : ComparisonOp → BoundExpression L → BoundExpression L → BoundExpression L
  Not : BoundExpression L → BoundExpression L
  And : BoundExpression L → BoundExpression L → BoundExpression L
  Or : BoundExpression L → BoundExpression L → BoundExpression L
  IsNull : BoundExpression L → BoundExpression L
  IsNotNull : BoundExpression L → BoundExpression L
  -- a branch of a CASE: its condition, its result, and the rest, which is the next branch or the operand of ELSE
  Case : Branch → BoundExpression L → BoundExpression L → BoundExpression L → BoundExpression L

-- the bound expression that a value of the code shows, by what its references show
abbrev pub bound_expression_of : {C L : Type 0} → (C → L) → Code C → BoundExpression L
bound_expression_of shown (code.Reference l) = Reference (shown l)
bound_expression_of shown (code.Literal v kind) = Literal v kind
bound_expression_of shown (code.Negate' p a) = Negate (bound_expression_of shown a)
bound_expression_of shown (code.Arithmetic' op p a q b) = Arithmetic op (bound_expression_of shown a) (bound_expression_of shown b)
bound_expression_of shown (code.Compare' op p a q b) = Compare op (bound_expression_of shown a) (bound_expression_of shown b)
bound_expression_of shown (code.Not' p a) = Not (bound_expression_of shown a)
bound_expression_of shown (code.And' p a q b) = And (bound_expression_of shown a) (bound_expression_of shown b)
bound_expression_of shown (code.Or' p a q b) = Or (bound_expression_of shown a) (bound_expression_of shown b)
bound_expression_of shown (code.IsNull' p a) = IsNull (bound_expression_of shown a)
bound_expression_of shown (code.IsNotNull' p a) = IsNotNull (bound_expression_of shown a)
bound_expression_of shown (code.Case' branch p a q b r c) = Case branch (bound_expression_of shown a) (bound_expression_of shown b) (bound_expression_of shown c)

-- the references of a bound expression, from left to right
abbrev pub references : {L : Type 0} → BoundExpression L → List L
references (Reference l) = l ∷ []
references (Literal v kind) = []
references (Negate a) = references a
references (Arithmetic op a b) = references a ++ references b
references (Compare op a b) = references a ++ references b
references (Not a) = references a
references (And a b) = references a ++ references b
references (Or a b) = references a ++ references b
references (IsNull a) = references a
references (IsNotNull a) = references a
references (Case branch a b c) = references a ++ references b ++ references c

-- the expression over the columns of the references
abbrev pub rebased : {L : Type 0} → (L → ℕ) → BoundExpression L → Expression
rebased at (Reference l) = e.Column (at l)
rebased at (Literal v kind) = e.Literal v kind
rebased at (Negate a) = e.Negate (rebased at a)
rebased at (Arithmetic op a b) = e.Arithmetic op (rebased at a) (rebased at b)
rebased at (Compare op a b) = e.Compare op (rebased at a) (rebased at b)
rebased at (Not a) = e.Not (rebased at a)
rebased at (And a b) = e.And (rebased at a) (rebased at b)
rebased at (Or a b) = e.Or (rebased at a) (rebased at b)
rebased at (IsNull a) = e.IsNull (rebased at a)
rebased at (IsNotNull a) = e.IsNotNull (rebased at a)
rebased at (Case branch a b c) = e.Case branch (rebased at a) (rebased at b) (rebased at c)

-- equal trees over equal references; the kind of a literal counts, and a CASE within ELSE differs from a further branch
abbrev pub same_bound_expression : {L : Type 0} → (L → L → Bool) → BoundExpression L → BoundExpression L → Bool
same_bound_expression alike (Reference l) (Reference m) = alike l m
same_bound_expression alike (Literal v kind) (Literal w other) = same v w && same_kind kind other
same_bound_expression alike (Negate a) (Negate b) = same_bound_expression alike a b
same_bound_expression alike (Arithmetic op a b) (Arithmetic op' c d) = sameb operation op op' && (same_bound_expression alike a c && same_bound_expression alike b d)
same_bound_expression alike (Compare op a b) (Compare op' c d) = sameb comparison op op' && (same_bound_expression alike a c && same_bound_expression alike b d)
same_bound_expression alike (Not a) (Not b) = same_bound_expression alike a b
same_bound_expression alike (And a b) (And c d) = same_bound_expression alike a c && same_bound_expression alike b d
same_bound_expression alike (Or a b) (Or c d) = same_bound_expression alike a c && same_bound_expression alike b d
same_bound_expression alike (IsNull a) (IsNull b) = same_bound_expression alike a b
same_bound_expression alike (IsNotNull a) (IsNotNull b) = same_bound_expression alike a b
same_bound_expression alike (Case branch a b c) (Case other a' b' c') = sameb branches branch other && (same_bound_expression alike a a' && (same_bound_expression alike b b' && same_bound_expression alike c c'))
same_bound_expression alike a b = false

-- the expression with each reference replaced; the first reference that cannot be replaced decides
abbrev pub over_references : {K L : Type 0} → (K → Meant L) → BoundExpression K → Meant (BoundExpression L)
over_references reference (Reference l) = reference l >>= λ m. Ok (Reference m)
over_references reference (Literal v kind) = Ok (Literal v kind)
over_references reference (Negate a) = over_references reference a >>= λ x. Ok (Negate x)
over_references reference (Arithmetic op a b) = over_references reference a >>= λ x. over_references reference b >>= λ y. Ok (Arithmetic op x y)
over_references reference (Compare op a b) = over_references reference a >>= λ x. over_references reference b >>= λ y. Ok (Compare op x y)
over_references reference (Not a) = over_references reference a >>= λ x. Ok (Not x)
over_references reference (And a b) = over_references reference a >>= λ x. over_references reference b >>= λ y. Ok (And x y)
over_references reference (Or a b) = over_references reference a >>= λ x. over_references reference b >>= λ y. Ok (Or x y)
over_references reference (IsNull a) = over_references reference a >>= λ x. Ok (IsNull x)
over_references reference (IsNotNull a) = over_references reference a >>= λ x. Ok (IsNotNull x)
over_references reference (Case branch a b c) = over_references reference a >>= λ x. over_references reference b >>= λ y. over_references reference c >>= λ z. Ok (Case branch x y z)

-- the expression over the columns of the references; the first reference without a column decides
abbrev pub over_columns : {K : Type 0} → (K → Meant ℕ) → BoundExpression K → Meant Expression
over_columns at f = over_references at f >>= λ g. Ok (rebased (λ n. n) g)

-- ---- kinds

-- the kind of a bound expression's values, over references of these kinds
abbrev pub kind_over : {L : Type 0} → (L → Option ValueKind) → BoundExpression L → Option ValueKind
kind_over kinds (Reference l) = kinds l
kind_over kinds (Literal v kind) = Some kind
kind_over kinds (Negate a) = Some Number
kind_over kinds (Arithmetic op a b) = Some Number
kind_over kinds (Compare op a b) = Some Truth
kind_over kinds (Not a) = Some Truth
kind_over kinds (And a b) = Some Truth
kind_over kinds (Or a b) = Some Truth
kind_over kinds (IsNull a) = Some Truth
kind_over kinds (IsNotNull a) = Some Truth
kind_over kinds (Case branch a b c) = kind_over kinds b

-- each operand is of the kind that its place requires, as in an expression of a plan (`is_typed` of wd_plan)
abbrev pub is_typed_over : {L : Type 0} → (L → Option ValueKind) → BoundExpression L → Bool
is_typed_over kinds (Reference l) = is_some (kinds l)
is_typed_over kinds (Literal v kind) = is_of_kind kind v
is_typed_over kinds (Negate a) = is_typed_over kinds a && is_kind Number (kind_over kinds a)
is_typed_over kinds (Arithmetic op a b) = (is_typed_over kinds a && is_kind Number (kind_over kinds a)) && (is_typed_over kinds b && is_kind Number (kind_over kinds b))
is_typed_over kinds (Compare op a b) = (is_typed_over kinds a && is_typed_over kinds b) && are_alike (kind_over kinds a) (kind_over kinds b)
is_typed_over kinds (Not a) = is_typed_over kinds a && is_kind Truth (kind_over kinds a)
is_typed_over kinds (And a b) = (is_typed_over kinds a && is_kind Truth (kind_over kinds a)) && (is_typed_over kinds b && is_kind Truth (kind_over kinds b))
is_typed_over kinds (Or a b) = (is_typed_over kinds a && is_kind Truth (kind_over kinds a)) && (is_typed_over kinds b && is_kind Truth (kind_over kinds b))
is_typed_over kinds (IsNull a) = is_typed_over kinds a
is_typed_over kinds (IsNotNull a) = is_typed_over kinds a
is_typed_over kinds (Case branch a b c) = (is_typed_over kinds a && is_kind Truth (kind_over kinds a)) && ((is_typed_over kinds b && is_typed_over kinds c) && are_alike (kind_over kinds b) (kind_over kinds c))
