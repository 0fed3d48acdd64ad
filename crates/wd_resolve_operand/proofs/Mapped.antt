-- A tree that is made over other references is the expression over these, and one that is made over columns is that expression over the
-- columns.
use Rattle.std.proofs.Common.{◌≡◌, ◌∙◌, ap, refl, sym, ℕ, Ok, Err}
use Rattle.wd_plan.specs.Expressions as e
use Rattle.wd_plan.specs.Expressions.{Expression}
use Rattle.wd_resolve_operand.specs.Causes.{Meant, ◌>>=◌}
use Rattle.wd_resolve_operand.specs.BoundExpressions.{BoundExpression, Reference, Literal, Negate, Arithmetic, Compare, Not, And, Or, IsNull, IsNotNull, Case, over_columns, over_references, rebased}
use Rattle.wd_resolve_operand.specs.Mappings.{column_over, bound_expressions, expressions, reference_over, mapped}

pub mapped_over_references : {K L : Type 0} (reference : K → Meant L) (f : BoundExpression K) → mapped bound_expressions (reference_over reference) f ≡ over_references reference f
mapped_over_references reference (Reference k) = refl
mapped_over_references reference (Literal v kind) = refl
mapped_over_references reference (Negate a) = rw (mapped_over_references reference a) refl
mapped_over_references reference (Arithmetic op a b) = rw (mapped_over_references reference a, mapped_over_references reference b) refl
mapped_over_references reference (Compare op a b) = rw (mapped_over_references reference a, mapped_over_references reference b) refl
mapped_over_references reference (Not a) = rw (mapped_over_references reference a) refl
mapped_over_references reference (And a b) = rw (mapped_over_references reference a, mapped_over_references reference b) refl
mapped_over_references reference (Or a b) = rw (mapped_over_references reference a, mapped_over_references reference b) refl
mapped_over_references reference (IsNull a) = rw (mapped_over_references reference a) refl
mapped_over_references reference (IsNotNull a) = rw (mapped_over_references reference a) refl
mapped_over_references reference (Case branch a b c) = rw (mapped_over_references reference a, mapped_over_references reference b, mapped_over_references reference c) refl

abbrev rebased_all : BoundExpression ℕ → Meant Expression
rebased_all g = Ok (rebased (λ n. n) g)

one_reference : (n : Meant ℕ) → (n >>= λ m. Ok (e.Column m)) ≡ ((n >>= λ m. Ok (Reference m)) >>= λ g. rebased_all g)
one_reference (Ok m) = refl
one_reference (Err c) = refl

under : (a : Meant (BoundExpression ℕ)) (unary : BoundExpression ℕ → BoundExpression ℕ) (made : Expression → Expression) → ((x : BoundExpression ℕ) → rebased (λ n. n) (unary x) ≡ made (rebased (λ n. n) x)) → ((a >>= λ x. rebased_all x) >>= λ x. Ok (made x)) ≡ ((a >>= λ x. Ok (unary x)) >>= λ g. rebased_all g)
under (Ok x) unary made h = ap Ok (sym (h x))
under (Err c) unary made h = refl

two : (a b : Meant (BoundExpression ℕ)) (between : BoundExpression ℕ → BoundExpression ℕ → BoundExpression ℕ) (made : Expression → Expression → Expression) → ((x y : BoundExpression ℕ) → rebased (λ n. n) (between x y) ≡ made (rebased (λ n. n) x) (rebased (λ n. n) y)) → ((a >>= λ x. rebased_all x) >>= λ x. (b >>= λ y. rebased_all y) >>= λ y. Ok (made x y)) ≡ ((a >>= λ x. b >>= λ y. Ok (between x y)) >>= λ g. rebased_all g)
two (Ok x) (Ok y) between made h = ap Ok (sym (h x y))
two (Ok x) (Err c) between made h = refl
two (Err c) b between made h = refl

three : (a b c : Meant (BoundExpression ℕ)) (branch : BoundExpression ℕ → BoundExpression ℕ → BoundExpression ℕ → BoundExpression ℕ) (made : Expression → Expression → Expression → Expression) → ((x y z : BoundExpression ℕ) → rebased (λ n. n) (branch x y z) ≡ made (rebased (λ n. n) x) (rebased (λ n. n) y) (rebased (λ n. n) z)) → ((a >>= λ x. rebased_all x) >>= λ x. (b >>= λ y. rebased_all y) >>= λ y. (c >>= λ z. rebased_all z) >>= λ z. Ok (made x y z)) ≡ ((a >>= λ x. b >>= λ y. c >>= λ z. Ok (branch x y z)) >>= λ g. rebased_all g)
three (Ok x) (Ok y) (Ok z) branch made h = ap Ok (sym (h x y z))
three (Ok x) (Ok y) (Err d) branch made h = refl
three (Ok x) (Err d) c branch made h = refl
three (Err d) b c branch made h = refl

pub mapped_over_columns : {K : Type 0} (at : K → Meant ℕ) (f : BoundExpression K) → mapped expressions (column_over at) f ≡ over_columns at f
mapped_over_columns at (Reference k) = one_reference (at k)
mapped_over_columns at (Literal v kind) = refl
mapped_over_columns at (Negate a) = rw (mapped_over_columns at a) (under (over_references at a) Negate e.Negate (λ x. refl))
mapped_over_columns at (Arithmetic op a b) = rw (mapped_over_columns at a, mapped_over_columns at b) (two (over_references at a) (over_references at b) (Arithmetic op) (e.Arithmetic op) (λ x y. refl))
mapped_over_columns at (Compare op a b) = rw (mapped_over_columns at a, mapped_over_columns at b) (two (over_references at a) (over_references at b) (Compare op) (e.Compare op) (λ x y. refl))
mapped_over_columns at (Not a) = rw (mapped_over_columns at a) (under (over_references at a) Not e.Not (λ x. refl))
mapped_over_columns at (And a b) = rw (mapped_over_columns at a, mapped_over_columns at b) (two (over_references at a) (over_references at b) And e.And (λ x y. refl))
mapped_over_columns at (Or a b) = rw (mapped_over_columns at a, mapped_over_columns at b) (two (over_references at a) (over_references at b) Or e.Or (λ x y. refl))
mapped_over_columns at (IsNull a) = rw (mapped_over_columns at a) (under (over_references at a) IsNull e.IsNull (λ x. refl))
mapped_over_columns at (IsNotNull a) = rw (mapped_over_columns at a) (under (over_references at a) IsNotNull e.IsNotNull (λ x. refl))
mapped_over_columns at (Case branch a b c) = rw (mapped_over_columns at a, mapped_over_columns at b, mapped_over_columns at c) (three (over_references at a) (over_references at b) (over_references at c) (Case branch) (e.Case branch) (λ x y z. refl))

-- ---- where each reference becomes one

-- an expression over its own references is itself
pub over_itself : {L : Type 0} (f : BoundExpression L) → over_references (λ l. Ok l) f ≡ Ok f
over_itself (Reference l) = refl
over_itself (Literal v kind) = refl
over_itself (Negate a) = rw (over_itself a) refl
over_itself (Arithmetic op a b) = rw (over_itself a, over_itself b) refl
over_itself (Compare op a b) = rw (over_itself a, over_itself b) refl
over_itself (Not a) = rw (over_itself a) refl
over_itself (And a b) = rw (over_itself a, over_itself b) refl
over_itself (Or a b) = rw (over_itself a, over_itself b) refl
over_itself (IsNull a) = rw (over_itself a) refl
over_itself (IsNotNull a) = rw (over_itself a) refl
over_itself (Case branch a b c) = rw (over_itself a, over_itself b, over_itself c) refl

mapped_rebased : {L : Type 0} (at : L → ℕ) (f : BoundExpression L) → mapped expressions (column_over (λ l. Ok (at l))) f ≡ Ok (rebased at f)
mapped_rebased at (Reference l) = refl
mapped_rebased at (Literal v kind) = refl
mapped_rebased at (Negate a) = rw (mapped_rebased at a) refl
mapped_rebased at (Arithmetic op a b) = rw (mapped_rebased at a, mapped_rebased at b) refl
mapped_rebased at (Compare op a b) = rw (mapped_rebased at a, mapped_rebased at b) refl
mapped_rebased at (Not a) = rw (mapped_rebased at a) refl
mapped_rebased at (And a b) = rw (mapped_rebased at a, mapped_rebased at b) refl
mapped_rebased at (Or a b) = rw (mapped_rebased at a, mapped_rebased at b) refl
mapped_rebased at (IsNull a) = rw (mapped_rebased at a) refl
mapped_rebased at (IsNotNull a) = rw (mapped_rebased at a) refl
mapped_rebased at (Case branch a b c) = rw (mapped_rebased at a, mapped_rebased at b, mapped_rebased at c) refl

-- over the columns at which references stand
pub rebased_over : {L : Type 0} (at : L → ℕ) (f : BoundExpression L) → over_columns (λ l. Ok (at l)) f ≡ Ok (rebased at f)
rebased_over at f = sym (mapped_over_columns (λ l. Ok (at l)) f) ∙ mapped_rebased at f
