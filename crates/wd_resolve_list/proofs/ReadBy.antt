-- What references read is typed, and stands among the inputs.
use Rattle.std.proofs.Common.{◌≡◌, refl, Bool, true, nat_eq, List, [], ◌∷◌, ◌++◌, map, eq-eqb}
use Rattle.std.specs.List.{AllByRecursion, list_any}
use Rattle.std.specs.Cmp.{booleans_Decides}
use denote.Enum.Bare.{true_same}
use lib.Pointwise.{pointwise}
use Rattle.wd_value.proofs.SameLaws.{same-Decides}
use Rattle.wd_plan.specs.contracts.expression.ArithmeticOp.{the_type as operation}
use Rattle.wd_plan.specs.contracts.expression.ComparisonOp.{the_type as comparison}
use Rattle.wd_plan.specs.contracts.expression.Branch.{the_type as branches}
use Rattle.wd_plan.specs.contracts.function.Direction.{the_type as ways}
use Rattle.wd_plan.specs.contracts.window.Exclusion.{the_type as exclusions}
use Rattle.wd_plan.specs.contracts.window.FrameMode.{the_type as modes}
use Rattle.wd_plan.specs.declared.function.FrameRow.{FrameRow}
use Rattle.wd_plan.specs.declared.function.FrameRow.TheVariants.{First, Last, Nth}
use Rattle.wd_plan.specs.declared.function.Ranking.{Ranking}
use Rattle.wd_plan.specs.declared.function.Ranking.TheVariants as rank
use Rattle.wd_plan.specs.declared.window.Bound.{Bound}
use Rattle.wd_plan.specs.declared.window.Bound.TheVariants.{UnboundedPreceding, Preceding, CurrentRow, Following, UnboundedFollowing}
use Rattle.wd_plan.specs.declared.window.Frame.{Frame}
use Rattle.wd_plan.specs.Expressions.{Expression, Column, Literal, Negate, Arithmetic, Compare, Not, And, Or, IsNull, IsNotNull, Case}
use Rattle.wd_plan.specs.Equality.{same_expression}
use Rattle.wd_resolve_operand.specs.BoundExpressions as f
use Rattle.wd_resolve_operand.specs.BoundExpressions.{BoundExpression, same_bound_expression}
use Rattle.wd_resolve_call.specs.Rows.{BoundArgument, BoundAggregate, count_rows, count_of, sum_of, least_of, greatest_of, GroupCall, of_rows, grouping, RowReference, column, of_group, RowExpression, aggregated, kind_of_group_call, same_aggregate, same_group_call, same_row_expression, same_row_reference}
use Rattle.wd_resolve_call.specs.Calls.{BoundFunction, ranking, away, value_at, aggregate, BoundCall, same_bound, same_call, same_frame, same_function, same_key, same_ranking, same_row}
use Rattle.wd_resolve_call.specs.References.{SelectReference, of_row, call}
use Rattle.wd_resolve_call.specs.Windows.{BoundKey}
use Rattle.wd_resolve_scope.specs.Typed.{AreKeys, AreTyped, IsAggregate, IsArgument, IsCall, IsFunction, IsReference, IsRowExpression, IsRowReference, IsTypedRow, Readable}
use Rattle.wd_resolve_scope.proofs.Typing.{and_both, same_kind-itself}
use Rattle.wd_resolve_list.specs.SelectLists.{argument_of, calls_among, read_by, read_by_all, sorted_by}
use Rattle.wd_resolve_list.proofs.Among.{all_append, all_split, some_there}

-- ---- what is one and the same

pub same_expression-itself : (x : Expression) → same_expression x x ≡ true
same_expression-itself (Column n) = eq-eqb n n refl
same_expression-itself (Literal v k) = and_both _ _ ((same-Decides v v).1 refl) (same_kind-itself k)
same_expression-itself (Negate x) = same_expression-itself x
same_expression-itself (Arithmetic o x y) = and_both _ _ (true_same operation o o refl) (and_both _ _ (same_expression-itself x) (same_expression-itself y))
same_expression-itself (Compare o x y) = and_both _ _ (true_same comparison o o refl) (and_both _ _ (same_expression-itself x) (same_expression-itself y))
same_expression-itself (Not x) = same_expression-itself x
same_expression-itself (And x y) = and_both _ _ (same_expression-itself x) (same_expression-itself y)
same_expression-itself (Or x y) = and_both _ _ (same_expression-itself x) (same_expression-itself y)
same_expression-itself (IsNull x) = same_expression-itself x
same_expression-itself (IsNotNull x) = same_expression-itself x
same_expression-itself (Case branch x y z) = and_both _ _ (true_same branches branch branch refl) (and_both _ _ (same_expression-itself x) (and_both _ _ (same_expression-itself y) (same_expression-itself z)))

pointwise-itself : {A : Type 0} (same : A → A → Bool) → ((x : A) → same x x ≡ true) → (xs : List A) → pointwise same xs xs ≡ true
pointwise-itself same itself [] = refl
pointwise-itself same itself (x ∷ xs) = and_both _ _ (itself x) (pointwise-itself same itself xs)

-- one and the same tree over references that are the same
same_bound_expression-itself : {L : Type 0} (same : L → L → Bool) → ((x : L) → same x x ≡ true) → (f : BoundExpression L) → same_bound_expression same f f ≡ true
same_bound_expression-itself same itself (f.Reference l) = itself l
same_bound_expression-itself same itself (f.Literal v k) = and_both _ _ ((same-Decides v v).1 refl) (same_kind-itself k)
same_bound_expression-itself same itself (f.Negate x) = same_bound_expression-itself same itself x
same_bound_expression-itself same itself (f.Arithmetic o x y) = and_both _ _ (true_same operation o o refl) (and_both _ _ (same_bound_expression-itself same itself x) (same_bound_expression-itself same itself y))
same_bound_expression-itself same itself (f.Compare o x y) = and_both _ _ (true_same comparison o o refl) (and_both _ _ (same_bound_expression-itself same itself x) (same_bound_expression-itself same itself y))
same_bound_expression-itself same itself (f.Not x) = same_bound_expression-itself same itself x
same_bound_expression-itself same itself (f.And x y) = and_both _ _ (same_bound_expression-itself same itself x) (same_bound_expression-itself same itself y)
same_bound_expression-itself same itself (f.Or x y) = and_both _ _ (same_bound_expression-itself same itself x) (same_bound_expression-itself same itself y)
same_bound_expression-itself same itself (f.IsNull x) = same_bound_expression-itself same itself x
same_bound_expression-itself same itself (f.IsNotNull x) = same_bound_expression-itself same itself x
same_bound_expression-itself same itself (f.Case branch x y z) = and_both _ _ (true_same branches branch branch refl) (and_both _ _ (same_bound_expression-itself same itself x) (and_both _ _ (same_bound_expression-itself same itself y) (same_bound_expression-itself same itself z)))

same_aggregate-itself : {E : Type 0} (same : E → E → Bool) → ((x : E) → same x x ≡ true) → (a : BoundAggregate E) → same_aggregate same a a ≡ true
same_aggregate-itself same itself count_rows = refl
same_aggregate-itself same itself (count_of a) = itself a.expression
same_aggregate-itself same itself (sum_of a) = itself a.expression
same_aggregate-itself same itself (least_of a) = itself a.expression
same_aggregate-itself same itself (greatest_of a) = itself a.expression

pub same_group_call-itself : (c : GroupCall) → same_group_call c c ≡ true
same_group_call-itself (of_rows a) = same_aggregate-itself same_expression same_expression-itself a
same_group_call-itself (grouping columns) = pointwise-itself nat_eq (λ n. eq-eqb n n refl) columns

same_row_reference-itself : (l : RowReference) → same_row_reference l l ≡ true
same_row_reference-itself (column n) = eq-eqb n n refl
same_row_reference-itself (of_group c) = same_group_call-itself c

pub same_row_expression-itself : (f : RowExpression) → same_row_expression f f ≡ true
same_row_expression-itself = same_bound_expression-itself same_row_reference same_row_reference-itself

same_ranking-itself : (r : Ranking) → same_ranking r r ≡ true
same_ranking-itself rank.RowNumber = refl
same_ranking-itself rank.Rank = refl
same_ranking-itself rank.DenseRank = refl
same_ranking-itself (rank.Ntile n) = eq-eqb n n refl

same_row-itself : (r : FrameRow) → same_row r r ≡ true
same_row-itself First = refl
same_row-itself Last = refl
same_row-itself (Nth n) = eq-eqb n n refl

same_function-itself : (f : BoundFunction) → same_function f f ≡ true
same_function-itself (ranking r) = same_ranking-itself r
same_function-itself (away direction a n default) = and_both _ _ (true_same ways direction direction refl) (and_both _ _ (eq-eqb n n refl) (and_both _ _ ((same-Decides default default).1 refl) (same_row_expression-itself a.expression)))
same_function-itself (value_at row a) = and_both _ _ (same_row-itself row) (same_row_expression-itself a.expression)
same_function-itself (aggregate a) = same_aggregate-itself same_row_expression same_row_expression-itself a

same_key-itself : (k : BoundKey) → same_key k k ≡ true
same_key-itself k = and_both _ _ (and_both _ _ ((booleans_Decides k.key.desc k.key.desc).1 refl) ((booleans_Decides k.key.nulls_first k.key.nulls_first).1 refl)) (same_row_expression-itself k.expression)

same_bound-itself : (b : Bound) → same_bound b b ≡ true
same_bound-itself UnboundedPreceding = refl
same_bound-itself (Preceding n) = eq-eqb n n refl
same_bound-itself CurrentRow = refl
same_bound-itself (Following n) = eq-eqb n n refl
same_bound-itself UnboundedFollowing = refl

same_frame-itself : (f : Frame) → same_frame f f ≡ true
same_frame-itself f = and_both _ _ (and_both _ _ (true_same modes f.mode f.mode refl) (true_same exclusions f.exclusion f.exclusion refl)) (and_both _ _ (same_bound-itself f.start) (same_bound-itself f.end))

pub same_call-itself : (c : BoundCall) → same_call c c ≡ true
same_call-itself c =
    and_both _ _ (same_function-itself c.function)
    (and_both _ _ (same_frame-itself c.window.frame)
    (and_both _ _ (pointwise-itself same_key same_key-itself c.window.order) (pointwise-itself same_row_expression same_row_expression-itself c.window.partition)))

-- ---- among the inputs

abbrev pub IsAmong : List RowExpression → RowExpression → Type 0
IsAmong inputs f = list_any (same_row_expression f) inputs ≡ true

abbrev pub AreAmong : List RowExpression → List RowExpression → Type 0
AreAmong inputs fs = AllByRecursion (IsAmong inputs) fs

-- what all references read stands among the inputs, and so does what each reads
pub each_among : (inputs : List RowExpression) (references : List SelectReference) → AreAmong inputs (read_by_all references) → AllByRecursion (λ reference. AreAmong inputs (read_by reference)) references
each_among inputs [] h = tt
each_among inputs (reference ∷ references) h = let p = all_split (IsAmong inputs) (read_by reference) (read_by_all references) h in (p.0, each_among inputs references p.1)

-- the expressions of a call among the inputs
pub record IsFed (inputs : List RowExpression) (c : BoundCall) : Type 0 where
  pub argument : AreAmong inputs (argument_of c.function)
  pub partition : AreAmong inputs c.window.partition
  pub order : AreAmong inputs (map sorted_by c.window.order)

pub fed : (inputs : List RowExpression) (c : BoundCall) → AreAmong inputs (read_by (call c)) → IsFed inputs c
fed inputs c h =
    let p = all_split (IsAmong inputs) (argument_of c.function ++ c.window.partition) (map sorted_by c.window.order) h in
    let q = all_split (IsAmong inputs) (argument_of c.function) c.window.partition p.0 in
    record { argument = q.0; partition = q.1; order = p.1 }

-- ---- the calls among references

pub of_calls : (P : SelectReference → Type 0) (references : List SelectReference) → AllByRecursion P references → AllByRecursion (λ c. P (call c)) (calls_among references)
of_calls P [] h = tt
of_calls P (of_row l ∷ references) h = of_calls P references h.1
of_calls P (call c ∷ references) h = (h.0, of_calls P references h.1)

pub of_references : (P : SelectReference → Type 0) (references : List SelectReference) → ((l : RowReference) → P (of_row l)) → AllByRecursion (λ c. P (call c)) (calls_among references) → AllByRecursion P references
of_references P [] f h = tt
of_references P (of_row l ∷ references) f h = (f l, of_references P references f h)
of_references P (call c ∷ references) f h = (h.0, of_references P references f h.1)

-- ---- what is read is typed

-- the kind of a reference of rows that is there
pub row_reference_typed : (r : Readable) (l : RowReference) → IsRowReference r l → IsTypedRow r (f.Reference l)
row_reference_typed r (column n) h = let k = some_there (r.kinds n) h.0 in record { kind = k.0; expression = record { is = h.0; has = k.1; references_are = (h, tt) } }
row_reference_typed r (of_group c) h = record { kind = kind_of_group_call c; expression = record { is = refl; has = refl; references_are = (h, tt) } }

module _ (r : Readable) where
  argument_is : (a : BoundArgument RowExpression) → IsArgument (IsRowExpression r) a → IsTypedRow r a.expression
  argument_is a h = record { kind = a.kind; expression = h }

  aggregated_typed : (a : BoundAggregate RowExpression) → IsAggregate (IsRowExpression r) a → AreTyped r (aggregated a)
  aggregated_typed count_rows h = tt
  aggregated_typed (count_of a) h = (argument_is a h, tt)
  aggregated_typed (sum_of a) h = (argument_is a h.0, tt)
  aggregated_typed (least_of a) h = (argument_is a h.0, tt)
  aggregated_typed (greatest_of a) h = (argument_is a h.0, tt)

  argument_typed : (f : BoundFunction) → IsFunction r f → AreTyped r (argument_of f)
  argument_typed (ranking q) h = tt
  argument_typed (away direction a n default) h = (argument_is a h.0, tt)
  argument_typed (value_at row a) h = (argument_is a h.0, tt)
  argument_typed (aggregate a) h = aggregated_typed a h

  keys_typed : (keys : List BoundKey) → AreKeys r keys → AreTyped r (map sorted_by keys)
  keys_typed [] h = tt
  keys_typed (key ∷ keys) h = (record { kind = key.kind; expression = h.0 }, keys_typed keys h.1)

  call_typed : (c : BoundCall) → IsCall r c → AreTyped r (read_by (call c))
  call_typed c h =
      all_append (IsTypedRow r) (argument_of c.function ++ c.window.partition) (map sorted_by c.window.order)
      (all_append (IsTypedRow r) (argument_of c.function) c.window.partition (argument_typed c.function h.function) h.window.partition)
      (keys_typed c.window.order h.window.order)

  abbrev pub AreReferences : List SelectReference → Type 0
  AreReferences references = AllByRecursion (IsReference r) references

  read_typed : (reference : SelectReference) → IsReference r reference → AreTyped r (read_by reference)
  read_typed (of_row l) h = (row_reference_typed r l h, tt)
  read_typed (call c) h = call_typed c h

  pub all_read_typed : (references : List SelectReference) → AreReferences references → AreTyped r (read_by_all references)
  all_read_typed [] h = tt
  all_read_typed (reference ∷ references) h = all_append (IsTypedRow r) (read_by reference) (read_by_all references) (read_typed reference h.0) (all_read_typed references h.1)
