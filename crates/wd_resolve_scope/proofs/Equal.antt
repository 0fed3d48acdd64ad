-- Expressions that are the same are equal; expressions over rows and calls that are the same are of one kind.
use Rattle.std.proofs.Common.{◌≡◌, ◌∙◌, sym, ap, refl, subst, nat_eq, Bool, true, rules, ◌++◌, Option, Some}
use Rattle.std.specs.List.{AllByRecursion}
use Rattle.std.proofs.lemmas.Bool.{false≢true, eqb-true}
use denote.Enum.Bare.{same_true, sameb}
use Rattle.wd_value.specs.Values.{same as same_value}
use Rattle.wd_plan.specs.contracts.function.Direction.{the_type as ways}
use Rattle.wd_value.proofs.SameLaws.{same-Decides}
use Rattle.wd_plan.specs.declared.expression.ValueKind.{ValueKind}
use Rattle.wd_plan.specs.contracts.expression.ArithmeticOp.{the_type as operation}
use Rattle.wd_plan.specs.contracts.expression.ComparisonOp.{the_type as comparison}
use Rattle.wd_plan.specs.contracts.expression.Branch.{the_type as branches}
use Rattle.wd_plan.specs.Expressions.{Expression, Column, Literal, Negate, Arithmetic, Compare, Not, And, Or, IsNull, IsNotNull, Case}
use Rattle.wd_resolve_operand.specs.BoundExpressions as expressions
use Rattle.wd_resolve_operand.specs.BoundExpressions.{BoundExpression, kind_over, references, same_bound_expression}
use Rattle.wd_resolve_call.specs.Rows.{BoundArgument, BoundAggregate, count_rows, count_of, sum_of, least_of, greatest_of, GroupCall, of_rows, grouping, RowExpression, RowReference, column, of_group, kind_of_aggregate, kind_of_group_call, same_aggregate, same_argument, same_group_call, same_row_expression, same_row_reference}
use Rattle.wd_resolve_call.specs.Calls.{BoundFunction, ranking, away, value_at, aggregate, BoundCall, kind_of_function, same_call, same_function, same_row}
use Rattle.wd_plan.specs.Equality.{same_expression}
use Rattle.wd_resolve_scope.specs.Typed.{IsAggregate, IsArgument, IsFunction, IsGroupCall, IsOfKind, IsRowExpression, IsRowReference, Readable, row_kind_at}
use Rattle.wd_resolve_scope.proofs.Lists.{all_left, all_right}
use Rattle.wd_resolve_scope.proofs.Typing.{both, same_kind-is, some_is}

pub same_expression-is : (x y : Expression) → same_expression x y ≡ true → x ≡ y
same_expression-is (Column n) (Column m) h = ap Column (eqb-true n m h)
same_expression-is (Literal v k) (Literal w l) h = let p = both _ _ h in λ i. Literal ((same-Decides v w).0 p.0 i) (same_kind-is k l p.1 i)
same_expression-is (Negate x) (Negate y) h = ap Negate (same_expression-is x y h)
same_expression-is (Arithmetic o x y) (Arithmetic q z w) h = let p = both _ _ h in let r = both _ _ p.1 in λ i. Arithmetic (same_true operation (search rules) o q p.0 i) (same_expression-is x z r.0 i) (same_expression-is y w r.1 i)
same_expression-is (Compare o x y) (Compare q z w) h = let p = both _ _ h in let r = both _ _ p.1 in λ i. Compare (same_true comparison (search rules) o q p.0 i) (same_expression-is x z r.0 i) (same_expression-is y w r.1 i)
same_expression-is (Not x) (Not y) h = ap Not (same_expression-is x y h)
same_expression-is (And x y) (And z w) h = let p = both _ _ h in λ i. And (same_expression-is x z p.0 i) (same_expression-is y w p.1 i)
same_expression-is (Or x y) (Or z w) h = let p = both _ _ h in λ i. Or (same_expression-is x z p.0 i) (same_expression-is y w p.1 i)
same_expression-is (IsNull x) (IsNull y) h = ap IsNull (same_expression-is x y h)
same_expression-is (IsNotNull x) (IsNotNull y) h = ap IsNotNull (same_expression-is x y h)
same_expression-is (Case branch x y z) (Case other u v w) h = let o = both _ _ h in let p = both _ _ o.1 in let r = both _ _ p.1 in λ i. Case (same_true branches (search rules) branch other o.0 i) (same_expression-is x u p.0 i) (same_expression-is y v r.0 i) (same_expression-is z w r.1 i)
same_expression-is x y h = absurd (false≢true h)

-- ---- kinds

module _ {L : Type 0} (kinds : L → Option ValueKind) (same : L → L → Bool) (P : L → Type 0) (alike : (l m : L) → same l m ≡ true → P l → P m → kinds l ≡ kinds m) where
  pub same_bound_expression-kind : (f g : BoundExpression L) → same_bound_expression same f g ≡ true → AllByRecursion P (references f) → AllByRecursion P (references g) → kind_over kinds f ≡ kind_over kinds g
  same_bound_expression-kind (expressions.Reference l) (expressions.Reference m) s h i = alike l m s h.0 i.0
  same_bound_expression-kind (expressions.Literal v k) (expressions.Literal w j) s h i = ap Some (same_kind-is k j (both _ _ s).1)
  same_bound_expression-kind (expressions.Negate a) (expressions.Negate b) s h i = refl
  same_bound_expression-kind (expressions.Arithmetic op a b) (expressions.Arithmetic other c d) s h i = refl
  same_bound_expression-kind (expressions.Compare op a b) (expressions.Compare other c d) s h i = refl
  same_bound_expression-kind (expressions.Not a) (expressions.Not b) s h i = refl
  same_bound_expression-kind (expressions.And a b) (expressions.And c d) s h i = refl
  same_bound_expression-kind (expressions.Or a b) (expressions.Or c d) s h i = refl
  same_bound_expression-kind (expressions.IsNull a) (expressions.IsNull b) s h i = refl
  same_bound_expression-kind (expressions.IsNotNull a) (expressions.IsNotNull b) s h i = refl
  same_bound_expression-kind (expressions.Case branch a b c) (expressions.Case other d e f) s h i =
      let o = both _ _ s in let p = both _ _ o.1 in let q = both _ _ p.1 in
      same_bound_expression-kind b e q.0 (all_right P (references a) (references b) (all_left P (references a ++ references b) (references c) h)) (all_right P (references d) (references e) (all_left P (references d ++ references e) (references f) i))
  same_bound_expression-kind f g s h i = absurd (false≢true s)

module _ {E : Type 0} (Is : E → ValueKind → Type 0) (same : E → E → Bool) (one : (e f : E) (k l : ValueKind) → same e f ≡ true → Is e k → Is f l → k ≡ l) where
  argument_kind : (a b : BoundArgument E) → same_argument same a b ≡ true → IsArgument Is a → IsArgument Is b → a.kind ≡ b.kind
  argument_kind a b s h g = one a.expression b.expression a.kind b.kind s h g

  aggregate_kind : (a b : BoundAggregate E) → same_aggregate same a b ≡ true → IsAggregate Is a → IsAggregate Is b → kind_of_aggregate a ≡ kind_of_aggregate b
  aggregate_kind count_rows count_rows s h g = refl
  aggregate_kind (count_of a) (count_of b) s h g = refl
  aggregate_kind (sum_of a) (sum_of b) s h g = refl
  aggregate_kind (least_of a) (least_of b) s h g = argument_kind a b s h.0 g.0
  aggregate_kind (greatest_of a) (greatest_of b) s h g = argument_kind a b s h.0 g.0
  aggregate_kind a b s h g = absurd (false≢true s)

module _ (r : Readable) where
  one_kind : (e f : Expression) (k l : ValueKind) → same_expression e f ≡ true → IsOfKind r.kinds e k → IsOfKind r.kinds f l → k ≡ l
  one_kind e f k l s h g = some_is k l (sym (subst (λ x. IsOfKind r.kinds x k) (same_expression-is e f s) h).has ∙ g.has)

  pub group_call_kind : (c d : GroupCall) → same_group_call c d ≡ true → IsGroupCall r c → IsGroupCall r d → kind_of_group_call c ≡ kind_of_group_call d
  group_call_kind (of_rows a) (of_rows b) s h g = aggregate_kind (IsOfKind r.kinds) same_expression one_kind a b s h g
  group_call_kind (grouping cs) (grouping ds) s h g = refl
  group_call_kind c d s h g = absurd (false≢true s)

  pub row_reference_kind : (l m : RowReference) → same_row_reference l m ≡ true → IsRowReference r l → IsRowReference r m → row_kind_at r.kinds l ≡ row_kind_at r.kinds m
  row_reference_kind (column m) (column n) s h g = ap r.kinds (eqb-true m n s)
  row_reference_kind (of_group c) (of_group d) s h g = ap Some (group_call_kind c d s h.1 g.1)
  row_reference_kind l m s h g = absurd (false≢true s)

  pub one_row_kind : (f g : RowExpression) (k l : ValueKind) → same_row_expression f g ≡ true → IsRowExpression r f k → IsRowExpression r g l → k ≡ l
  one_row_kind f g k l s h i = some_is k l (sym h.has ∙ same_bound_expression-kind (row_kind_at r.kinds) same_row_reference (IsRowReference r) row_reference_kind f g s h.references_are i.references_are ∙ i.has)

  argument : (a b : BoundArgument RowExpression) → same_argument same_row_expression a b ≡ true → IsArgument (IsRowExpression r) a → IsArgument (IsRowExpression r) b → a.kind ≡ b.kind
  argument a b s h g = argument_kind (IsRowExpression r) same_row_expression one_row_kind a b s h g

  pub same_function-kind : (f g : BoundFunction) → same_function f g ≡ true → IsFunction r f → IsFunction r g → kind_of_function f ≡ kind_of_function g
  same_function-kind (ranking r) (ranking q) s h i = refl
  same_function-kind (away direction a m v) (away other b n w) s h i = let p = both (sameb ways direction other) _ s in let q = both (nat_eq m n) _ p.1 in argument a b (both (same_value v w) _ q.1).1 h.0 i.0
  same_function-kind (value_at r a) (value_at q b) s h i = argument a b (both (same_row r q) _ s).1 h.0 i.0
  same_function-kind (aggregate a) (aggregate b) s h i = aggregate_kind (IsRowExpression r) same_row_expression one_row_kind a b s h i
  same_function-kind f g s h i = absurd (false≢true s)

  pub same_call-kind : (x y : BoundCall) → same_call x y ≡ true → IsFunction r x.function → IsFunction r y.function → kind_of_function x.function ≡ kind_of_function y.function
  same_call-kind x y s h i = same_function-kind x.function y.function (both _ _ s).0 h i
