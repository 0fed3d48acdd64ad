-- Trees made of expressions, by what each reference becomes.
use Rattle.std.specs.Prelude.{◌≡◌, ℕ, ◌+◌, List, [], ◌∷◌, ◌++◌, Option, Some, None, Result, Ok, Err}
use Rattle.std.proofs.Common.{Bor}
use Rattle.std.specs.List.{sum_by}
use Rattle.wd_value.specs.declared.value.Value.{Value}
use Rattle.wd_plan.specs.declared.expression.ValueKind.{ValueKind}
use Rattle.wd_plan.specs.declared.expression.Branch.{Branch}
use Rattle.wd_plan.specs.Expressions as e
use Rattle.wd_plan.specs.Expressions.{Expression}
use Rattle.wd_resolve_operand.specs.declared.maker.Unary.{Unary}
use Rattle.wd_resolve_operand.specs.declared.maker.Unary.TheVariants as unary
use Rattle.wd_resolve_operand.specs.declared.maker.Binary.{Binary}
use Rattle.wd_resolve_operand.specs.declared.maker.Binary.TheVariants as binary
use Rattle.wd_resolve_operand.specs.declared.cause.ResolveError.{ResolveError}
use Rattle.wd_resolve_operand.specs.declared.expression.BoundExpression.{BoundExpression as Code}
use Rattle.wd_resolve_operand.specs.declared.walk.Pending.{Pending}
use Rattle.wd_resolve_operand.specs.declared.walk.Pending.TheVariants as pending
use Rattle.wd_resolve_operand.specs.declared.walk.Step.{Step}
use Rattle.wd_resolve_operand.specs.declared.walk.Step.TheVariants as step
use Rattle.wd_resolve_operand.specs.Causes.{Fails, Meant, ◌>>=◌}
use Rattle.wd_resolve_operand.specs.BoundExpressions as f
use Rattle.wd_resolve_operand.specs.BoundExpressions.{BoundExpression, bound_expression_of, references}

-- how trees are made of their parts
pub record Making (T : Type 0) : Type 0 where
  pub literal : Value → ValueKind → T
  pub under : Unary → T → T
  pub between : Binary → T → T → T
  pub branch : Branch → T → T → T → T

abbrev pub bound_expression_under : {L : Type 0} → Unary → BoundExpression L → BoundExpression L
bound_expression_under unary.Negate a = f.Negate a
bound_expression_under unary.Not a = f.Not a
bound_expression_under unary.IsNull a = f.IsNull a
bound_expression_under unary.IsNotNull a = f.IsNotNull a

abbrev pub bound_expression_between : {L : Type 0} → Binary → BoundExpression L → BoundExpression L → BoundExpression L
bound_expression_between (binary.Arithmetic op) a b = f.Arithmetic op a b
bound_expression_between (binary.Compare op) a b = f.Compare op a b
bound_expression_between binary.And a b = f.And a b
bound_expression_between binary.Or a b = f.Or a b

abbrev pub bound_expressions : {L : Type 0} → Making (BoundExpression L)
bound_expressions = record { literal = f.Literal; under = bound_expression_under; between = bound_expression_between; branch = f.Case }

abbrev pub expression_under : Unary → Expression → Expression
expression_under unary.Negate a = e.Negate a
expression_under unary.Not a = e.Not a
expression_under unary.IsNull a = e.IsNull a
expression_under unary.IsNotNull a = e.IsNotNull a

abbrev pub expression_between : Binary → Expression → Expression → Expression
expression_between (binary.Arithmetic op) a b = e.Arithmetic op a b
expression_between (binary.Compare op) a b = e.Compare op a b
expression_between binary.And a b = e.And a b
expression_between binary.Or a b = e.Or a b

abbrev pub expressions : Making Expression
expressions = record { literal = e.Literal; under = expression_under; between = expression_between; branch = e.Case }

-- what a reference becomes, as an expression
abbrev pub reference_over : {K L : Type 0} → (K → Meant L) → K → Meant (BoundExpression L)
reference_over reference k = reference k >>= λ l. Ok (f.Reference l)

abbrev pub column_over : {K : Type 0} → (K → Meant ℕ) → K → Meant Expression
column_over at k = at k >>= λ n. Ok (e.Column n)

-- the tree made of an expression, where each reference becomes a tree; the first reference that becomes none decides
abbrev pub mapped : {K T : Type 0} → Making T → (K → Meant T) → BoundExpression K → Meant T
mapped made reference (f.Reference l) = reference l
mapped made reference (f.Literal v kind) = Ok (made.literal v kind)
mapped made reference (f.Negate a) = mapped made reference a >>= λ x. Ok (made.under unary.Negate x)
mapped made reference (f.Arithmetic op a b) = mapped made reference a >>= λ x. mapped made reference b >>= λ y. Ok (made.between (binary.Arithmetic op) x y)
mapped made reference (f.Compare op a b) = mapped made reference a >>= λ x. mapped made reference b >>= λ y. Ok (made.between (binary.Compare op) x y)
mapped made reference (f.Not a) = mapped made reference a >>= λ x. Ok (made.under unary.Not x)
mapped made reference (f.And a b) = mapped made reference a >>= λ x. mapped made reference b >>= λ y. Ok (made.between binary.And x y)
mapped made reference (f.Or a b) = mapped made reference a >>= λ x. mapped made reference b >>= λ y. Ok (made.between binary.Or x y)
mapped made reference (f.IsNull a) = mapped made reference a >>= λ x. Ok (made.under unary.IsNull x)
mapped made reference (f.IsNotNull a) = mapped made reference a >>= λ x. Ok (made.under unary.IsNotNull x)
mapped made reference (f.Case branch a b c) = mapped made reference a >>= λ x. mapped made reference b >>= λ y. mapped made reference c >>= λ z. Ok (made.branch branch x y z)

-- ---- what is still to be done

module _ {K L T S : Type 0} (read : K → L) (shown : T → S) (made : Making S) (reference : L → Meant S) where
  abbrev pub mapped_of : Code K → Meant S
  mapped_of expression = mapped made reference (bound_expression_of read expression)

  -- what becomes of the tree of an operand
  abbrev pub closed : Pending K T → S → Meant S
  closed (pending.Under operator) x = Ok (made.under operator x)
  closed (pending.Left operator b) x = mapped_of b.now >>= λ y. Ok (made.between operator x y)
  closed (pending.Right operator a) y = Ok (made.between operator (shown a.value) y)
  closed (pending.Condition branch b c) x = mapped_of b.now >>= λ y. mapped_of c.now >>= λ z. Ok (made.branch branch x y z)
  closed (pending.Result branch a c) y = mapped_of c.now >>= λ z. Ok (made.branch branch (shown a.value) y z)
  closed (pending.Rest branch a b) z = Ok (made.branch branch (shown a.value) (shown b.value) z)

  -- what becomes of the tree of an operand under all that wait, from the last on
  abbrev pub all_closed : List (Pending K T) → Meant S → Meant S
  all_closed [] x = x
  all_closed (outer ∷ inner) x = all_closed inner x >>= λ y. closed outer y

  abbrev pub step_of : Step K T → Meant S
  step_of (step.Made tree) = Ok (shown tree)
  step_of (step.Into outer part) = mapped_of part.now >>= λ x. closed outer x

  -- a step towards what is meant; the refusal is the defined cause, unless memory ran out
  abbrev pub Leads : Result (Step K T) ResolveError → Meant S → Type 0
  Leads (Ok s) meant = step_of s ≡ meant
  Leads (Err e) meant = Fails e meant

-- how many steps an expression takes
abbrev pub steps : {L : Type 0} → BoundExpression L → ℕ
steps (f.Reference l) = 1
steps (f.Literal v kind) = 1
steps (f.Negate a) = steps a + 2
steps (f.Arithmetic op a b) = steps a + steps b + 3
steps (f.Compare op a b) = steps a + steps b + 3
steps (f.Not a) = steps a + 2
steps (f.And a b) = steps a + steps b + 3
steps (f.Or a b) = steps a + steps b + 3
steps (f.IsNull a) = steps a + 2
steps (f.IsNotNull a) = steps a + 2
steps (f.Case branch a b c) = steps a + steps b + steps c + 4

abbrev pub part_steps : {K L : Type 0} → (K → L) → Code K → ℕ
part_steps read expression = steps (bound_expression_of read expression)

module _ {K L T : Type 0} (read : K → L) where
  abbrev pub pending_steps : Pending K T → ℕ
  pending_steps (pending.Under operator) = 1
  pending_steps (pending.Left operator b) = part_steps read b.now + 2
  pending_steps (pending.Right operator a) = 1
  pending_steps (pending.Condition branch b c) = part_steps read b.now + part_steps read c.now + 3
  pending_steps (pending.Result branch a c) = part_steps read c.now + 2
  pending_steps (pending.Rest branch a b) = 1

  abbrev pub steps_left : Step K T → ℕ
  steps_left (step.Made tree) = 0
  steps_left (step.Into outer part) = part_steps read part.now + pending_steps outer

-- ---- references

-- the reference that was met, if one was
abbrev pub reference_or_none : {K L : Type 0} → (K → L) → Option (Bor K) → List L
reference_or_none shown None = []
reference_or_none shown (Some k) = shown k.now ∷ []

-- the references of the expressions that wait, the last one first
abbrev pub waiting : {K L : Type 0} → (K → L) → List (Bor (Code K)) → List L
waiting shown [] = []
waiting shown (f ∷ fs) = waiting shown fs ++ references (bound_expression_of shown f.now)

-- how many steps the waiting expressions take
abbrev pub waiting_steps : {K L : Type 0} → (K → L) → List (Bor (Code K)) → ℕ
waiting_steps shown fs = sum_by (λ f. part_steps shown f.now) fs
