-- Functions over typed operands.
use Rattle.std.proofs.Common.{◌≡◌, sym, refl, subst, ℕ, pos, negsuc, nat_le, Bool, true, false, cond, ◌&&◌, List, [], ◌∷◌, length, Option, Some, None, Ok, Err}
use Rattle.std.specs.List.{AllByRecursion}
use Rattle.wd_value.specs.declared.value.Value.{Value}
use Rattle.wd_value.specs.declared.value.Value.TheVariants.{Null, Int, Text as TextValue, Bool as TruthValue}
use Rattle.wd_plan.specs.declared.expression.ValueKind.{ValueKind}
use Rattle.wd_plan.specs.declared.expression.ValueKind.TheVariants.{Number, Text, Truth}
use Rattle.wd_plan.specs.Fits.{has_extremes, is_of_kind, same_kind}
use Rattle.wd_resolve_operand.specs.declared.cause.Cause.{Cause}
use Rattle.wd_resolve_operand.specs.declared.cause.Cause.TheVariants.{WrongCall}
use Rattle.wd_plan.specs.declared.function.Direction.{Direction}
use Rattle.wd_plan.specs.declared.function.Direction.TheVariants as way
use Rattle.wd_plan.specs.declared.function.FrameRow.TheVariants.{First, Last, Nth}
use Rattle.wd_plan.specs.declared.function.Ranking.TheVariants as rank
use Rattle.wd_plan.specs.declared.function.FunctionName.{FunctionName}
use Rattle.wd_plan.specs.declared.function.FunctionName.TheVariants.{RowNumber, Rank, DenseRank, Ntile, Lag, Lead, FirstValue, LastValue, NthValue, Count, Sum, Min, Max}
use Rattle.wd_resolve_operand.specs.Causes.{Meant, ◌>>=◌}
use Rattle.wd_resolve_operand.specs.BoundExpressions.{BoundExpression, Reference, Literal, Negate, Arithmetic, Compare, Not, And, Or, IsNull, IsNotNull, Case}
use Rattle.wd_resolve_operand.specs.Operands.{Operand, bare_null, settled, typed}
use Rattle.wd_resolve_operand.specs.Operands as operands
use Rattle.wd_resolve_call.specs.Rows.{BoundArgument, BoundAggregate, count_of, sum_of, least_of, greatest_of, GroupCall, of_rows, grouping, RowExpression, column, of_group}
use Rattle.wd_resolve_call.specs.Calls.{BoundFunction, ranking, away, value_at, aggregate}
use Rattle.wd_resolve_call.specs.Functions.{GroupFunction, aggregates, grouped, aggregate_of_one, aggregate_over, applied, argument, column_only, columns_only, default_of, make_group_call, grouping_over, numbers, ordered, over_argument, over_arguments, over_none, over_one, over_star, over_three, over_two, shifted, whole}
use Rattle.wd_resolve_call.specs.References.{SelectReference, of_row, call, over_columns, over_rows}
use Rattle.wd_resolve_scope.specs.Typed.{IsAggregate, IsArgument, IsBoundExpression, IsFunction, IsGroupCall, IsOfKind, IsOperand, IsRowExpression, Readable}
use Rattle.wd_resolve_scope.proofs.OverColumns.{over_columns_is, over_rows_is}
use Rattle.wd_resolve_scope.proofs.TypedOperands.{settled_is}
use Rattle.wd_resolve_scope.proofs.Typing.{same_kind-is}
use Rattle.wd_resolve_call.proofs.Meanings.{bound, ok_is}

-- what a test lets through
passed : {A : Type 0} (b : Bool) (x y : A) (cause : Cause) → ◌≡◌ {A = Meant A} (cond b (Ok x) (Err cause)) (Ok y) → (b ≡ true) × (x ≡ y)
passed true x y cause h = (refl, ok_is _ _ h)
passed false x y cause h = cc

pub let_through : {A : Type 0} (b : Bool) (m : Meant A) (y : A) (cause : Cause) → cond b m (Err cause) ≡ Ok y → (b ≡ true) × (m ≡ Ok y)
let_through true m y cause h = (refl, h)
let_through false m y cause h = cc

-- ---- arguments, over what may stand in one

module _ (r : Readable) {E : Type 0} (over : BoundExpression SelectReference → Meant E) (Is : E → ValueKind → Type 0) (narrows : (f : BoundExpression SelectReference) (kind : ValueKind) (e : E) → IsBoundExpression r f kind → over f ≡ Ok e → Is e kind) where
  argument_is : (x : Operand SelectReference) (a : BoundArgument E) → IsOperand r x → argument over x ≡ Ok a → IsArgument Is a × (a.kind ≡ operands.kind_of x)
  argument_is x a h is =
      let e = bound (over (settled x)) (λ e. Ok (record { expression = e; kind = operands.kind_of x })) a is in
      subst (λ (b : BoundArgument E). IsArgument Is b × (b.kind ≡ operands.kind_of x)) (ok_is _ _ e.2) (narrows (settled x) (operands.kind_of x) e.0 (settled_is r x h) e.1, refl)

  numbers_is : (x : Operand SelectReference) (a : BoundArgument E) → IsOperand r x → numbers over x ≡ Ok a → IsArgument Is a × (a.kind ≡ Number)
  numbers_is bare_null a h is =
      let e = bound (over (Literal Null Number)) (λ e. Ok (record { expression = e; kind = Number })) a is in
      subst (λ (b : BoundArgument E). IsArgument Is b × (b.kind ≡ Number)) (ok_is _ _ e.2) (narrows (Literal Null Number) Number e.0 (record { is = refl; has = refl; references_are = tt }) e.1, refl)
  numbers_is (typed e Number) a h is = argument_is (typed e Number) a h is
  numbers_is (typed e Text) a h is = cc
  numbers_is (typed e Truth) a h is = cc

  ordered_is : (x : Operand SelectReference) (a : BoundArgument E) → IsOperand r x → ordered over x ≡ Ok a → IsArgument Is a × (has_extremes (Some a.kind) ≡ true)
  ordered_is x a h is =
      let p = let_through (has_extremes (Some (operands.kind_of x))) (argument over x) a WrongCall is in
      let q = argument_is x a h p.1 in
      (q.0, rw q.1 p.0)

  aggregate_is : (name : FunctionName) (x : Operand SelectReference) (a : BoundAggregate E) → IsOperand r x → aggregate_over over name x ≡ Ok a → IsAggregate Is a
  aggregate_is Count x a h is = let n = bound (argument over x) (λ b. Ok (count_of b)) a is in subst (IsAggregate Is) (ok_is _ _ n.2) (argument_is x n.0 h n.1).0
  aggregate_is Sum x a h is = let n = bound (numbers over x) (λ b. Ok (sum_of b)) a is in subst (IsAggregate Is) (ok_is _ _ n.2) (numbers_is x n.0 h n.1)
  aggregate_is Min x a h is = let n = bound (ordered over x) (λ b. Ok (least_of b)) a is in subst (IsAggregate Is) (ok_is _ _ n.2) (ordered_is x n.0 h n.1)
  aggregate_is Max x a h is = let n = bound (ordered over x) (λ b. Ok (greatest_of b)) a is in subst (IsAggregate Is) (ok_is _ _ n.2) (ordered_is x n.0 h n.1)
  aggregate_is name x a h is = cc

module _ (r : Readable) where
  whole_least : (least : ℕ) (x : Operand SelectReference) (n : ℕ) → whole least x ≡ Ok n → nat_le least n ≡ true
  whole_least least (typed (Literal (Int (pos m)) kind) other) n h = let p = passed (nat_le least m) m n WrongCall h in subst (λ k. nat_le least k ≡ true) p.1 p.0
  whole_least least (typed (Literal (Int (negsuc m)) kind) other) n h = cc
  whole_least least (typed (Literal Null kind) other) n h = cc
  whole_least least (typed (Literal (TextValue t) kind) other) n h = cc
  whole_least least (typed (Literal (TruthValue t) kind) other) n h = cc
  whole_least least (typed (Reference c) other) n h = cc
  whole_least least (typed (Negate a) other) n h = cc
  whole_least least (typed (Arithmetic op a b) other) n h = cc
  whole_least least (typed (Compare op a b) other) n h = cc
  whole_least least (typed (Not a) other) n h = cc
  whole_least least (typed (And a b) other) n h = cc
  whole_least least (typed (Or a b) other) n h = cc
  whole_least least (typed (IsNull a) other) n h = cc
  whole_least least (typed (IsNotNull a) other) n h = cc
  whole_least least (typed (Case branch a b c) other) n h = cc
  whole_least least bare_null n h = cc

  default_is : (kind : ValueKind) (x : Operand SelectReference) (v : Value) → IsOperand r x → default_of kind x ≡ Ok v → is_of_kind kind v ≡ true
  default_is kind bare_null v h is = subst (λ w. is_of_kind kind w ≡ true) (ok_is _ _ is) refl
  default_is kind (typed (Literal w other) k) v h is = let p = passed (same_kind kind other) w v WrongCall is in subst (λ u. is_of_kind kind u ≡ true) p.1 (subst (λ j. is_of_kind j w ≡ true) (sym (same_kind-is kind other p.0)) h.is)
  default_is kind (typed (Reference c) other) v h is = cc
  default_is kind (typed (Negate a) other) v h is = cc
  default_is kind (typed (Arithmetic op a b) other) v h is = cc
  default_is kind (typed (Compare op a b) other) v h is = cc
  default_is kind (typed (Not a) other) v h is = cc
  default_is kind (typed (And a b) other) v h is = cc
  default_is kind (typed (Or a b) other) v h is = cc
  default_is kind (typed (IsNull a) other) v h is = cc
  default_is kind (typed (IsNotNull a) other) v h is = cc
  default_is kind (typed (Case branch a b c) other) v h is = cc

  over_argument_is : (function : BoundArgument RowExpression → BoundFunction) (x : Operand SelectReference) (f : BoundFunction) → IsOperand r x → ((a : BoundArgument RowExpression) → IsArgument (IsRowExpression r) a → a.kind ≡ operands.kind_of x → IsFunction r (function a)) → over_argument function x ≡ Ok f → IsFunction r f
  over_argument_is function x f h fits is =
      let a = bound (argument over_rows x) (λ a. Ok (function a)) f is in
      let g = argument_is r over_rows (IsRowExpression r) (over_rows_is r) x a.0 h a.1 in
      subst (IsFunction r) (ok_is _ _ a.2) (fits a.0 g.0 g.1)

  null_is : (kind : ValueKind) → is_of_kind kind Null ≡ true
  null_is Number = refl
  null_is Text = refl
  null_is Truth = refl

  none_is : (name : FunctionName) (f : BoundFunction) → over_none name ≡ Ok f → IsFunction r f
  none_is RowNumber f is = subst (IsFunction r) (ok_is _ _ is) refl
  none_is Rank f is = subst (IsFunction r) (ok_is _ _ is) refl
  none_is DenseRank f is = subst (IsFunction r) (ok_is _ _ is) refl
  none_is name f is = cc

  with_aggregate : (m : Meant (BoundAggregate RowExpression)) (f : BoundFunction) → ((a : BoundAggregate RowExpression) → m ≡ Ok a → IsAggregate (IsRowExpression r) a) → (m >>= λ a. Ok (aggregate a)) ≡ Ok f → IsFunction r f
  with_aggregate m f h is = let a = bound m (λ b. Ok (aggregate b)) f is in subst (IsFunction r) (ok_is _ _ a.2) (h a.0 a.1)

  one_is : (name : FunctionName) (x : Operand SelectReference) (f : BoundFunction) → IsOperand r x → over_one name x ≡ Ok f → IsFunction r f
  one_is Ntile x f h is = let n = bound (whole 1 x) (λ buckets. Ok (ranking (rank.Ntile buckets))) f is in subst (IsFunction r) (ok_is _ _ n.2) (whole_least 1 x n.0 n.1)
  one_is Lag x f h is = over_argument_is (λ a. away way.Lag a 1 Null) x f h (λ a g same. (g, null_is a.kind)) is
  one_is Lead x f h is = over_argument_is (λ a. away way.Lead a 1 Null) x f h (λ a g same. (g, null_is a.kind)) is
  one_is FirstValue x f h is = over_argument_is (value_at First) x f h (λ a g same. (g, refl)) is
  one_is LastValue x f h is = over_argument_is (value_at Last) x f h (λ a g same. (g, refl)) is
  one_is RowNumber x f h is = cc
  one_is Rank x f h is = cc
  one_is DenseRank x f h is = cc
  one_is NthValue x f h is = cc
  one_is name x f h is = with_aggregate (aggregate_over over_rows name x) f (λ a. aggregate_is r over_rows (IsRowExpression r) (over_rows_is r) name x a h) is

  shifted_is : (direction : Direction) (x k d : Operand SelectReference) (f : BoundFunction) → IsOperand r x → IsOperand r d → shifted direction x k d ≡ Ok f → IsFunction r f
  shifted_is direction x k d f h g is =
      let n = bound (whole 0 k) (λ m. default_of (operands.kind_of x) d >>= λ default. over_argument (λ a. away direction a m default) x) f is in
      let v = bound (default_of (operands.kind_of x) d) (λ default. over_argument (λ a. away direction a n.0 default) x) f n.2 in
      over_argument_is (λ a. away direction a n.0 v.0) x f h (λ a i same. (i, rw same (default_is (operands.kind_of x) d v.0 g v.1))) v.2

  two_is : (name : FunctionName) (x y : Operand SelectReference) (f : BoundFunction) → IsOperand r x → over_two name x y ≡ Ok f → IsFunction r f
  two_is Lag x k f h is = shifted_is way.Lag x k bare_null f h tt is
  two_is Lead x k f h is = shifted_is way.Lead x k bare_null f h tt is
  two_is NthValue x n f h is =
      let m = bound (whole 1 n) (λ k. over_argument (value_at (Nth k)) x) f is in
      over_argument_is (value_at (Nth m.0)) x f h (λ a g same. (g, whole_least 1 n m.0 m.1)) m.2
  two_is name x y f h is = cc

  three_is : (name : FunctionName) (x y z : Operand SelectReference) (f : BoundFunction) → IsOperand r x → IsOperand r z → over_three name x y z ≡ Ok f → IsFunction r f
  three_is Lag x k d f h g is = shifted_is way.Lag x k d f h g is
  three_is Lead x k d f h g is = shifted_is way.Lead x k d f h g is
  three_is name x y z f h g is = cc

  pub arguments_is : (name : FunctionName) (xs : List (Operand SelectReference)) (f : BoundFunction) → AllByRecursion (IsOperand r) xs → over_arguments name xs ≡ Ok f → IsFunction r f
  arguments_is name [] f h is = none_is name f is
  arguments_is name (x ∷ []) f h is = one_is name x f h.0 is
  arguments_is name (x ∷ y ∷ []) f h is = two_is name x y f h.0 is
  arguments_is name (x ∷ y ∷ z ∷ []) f h is = three_is name x y z f h.0 h.1.1.0 is
  arguments_is name (x ∷ y ∷ z ∷ u ∷ others) f h is = cc

  star_is : (name : FunctionName) (f : BoundFunction) → over_star name ≡ Ok f → IsFunction r f
  star_is Count f is = subst (IsFunction r) (ok_is _ _ is) tt
  star_is name f is = cc

  abbrev pub AreArguments : Option (List (Operand SelectReference)) → Type 0
  AreArguments None = Unit {0}
  AreArguments (Some xs) = AllByRecursion (IsOperand r) xs

  pub applied_is : (name : Option FunctionName) (arguments : Option (List (Operand SelectReference))) (f : BoundFunction) → AreArguments arguments → applied name arguments ≡ Ok f → IsFunction r f
  applied_is None arguments f h is = cc
  applied_is (Some name) None f h is = star_is name f is
  applied_is (Some name) (Some xs) f h is = arguments_is name xs f h is

  -- ---- without OVER

  column_only_is : (x : Operand SelectReference) (n : ℕ) → IsOperand r x → column_only x ≡ Ok n → r.allows n ≡ true
  column_only_is (typed (Reference (of_row (column m))) kind) n h is = subst (λ c. r.allows c ≡ true) (ok_is _ _ is) h.references_are.0.1
  column_only_is (typed (Reference (of_row (of_group c))) kind) n h is = cc
  column_only_is (typed (Reference (call c)) kind) n h is = cc
  column_only_is (typed (Literal v k) kind) n h is = cc
  column_only_is (typed (Negate a) kind) n h is = cc
  column_only_is (typed (Arithmetic op a b) kind) n h is = cc
  column_only_is (typed (Compare op a b) kind) n h is = cc
  column_only_is (typed (Not a) kind) n h is = cc
  column_only_is (typed (And a b) kind) n h is = cc
  column_only_is (typed (Or a b) kind) n h is = cc
  column_only_is (typed (IsNull a) kind) n h is = cc
  column_only_is (typed (IsNotNull a) kind) n h is = cc
  column_only_is (typed (Case branch a b c) kind) n h is = cc
  column_only_is bare_null n h is = cc

  abbrev AreColumns : List ℕ → Type 0
  AreColumns columns = AllByRecursion (λ n. r.allows n ≡ true) columns

  columns_only_is : (xs : List (Operand SelectReference)) (columns : List ℕ) → AllByRecursion (IsOperand r) xs → columns_only xs ≡ Ok columns → AreColumns columns
  columns_only_is [] columns h is = subst AreColumns (ok_is _ _ is) tt
  columns_only_is (x ∷ xs) columns h is =
      let n = bound (column_only x) (λ n. columns_only xs >>= λ ns. Ok (n ∷ ns)) columns is in
      let ns = bound (columns_only xs) (λ ns. Ok (n.0 ∷ ns)) columns n.2 in
      subst AreColumns (ok_is _ _ ns.2) (column_only_is x n.0 h.0 n.1, columns_only_is xs ns.0 h.1 ns.1)

  grouping_over_is : (columns : List ℕ) (g : GroupCall) → AreColumns columns → grouping_over columns ≡ Ok g → IsGroupCall r g
  grouping_over_is columns g h is =
      let p = passed (nat_le 1 (length columns) && nat_le (length columns) 31) (grouping columns) g WrongCall is in
      subst (IsGroupCall r) p.1 (h, p.0)

  -- GROUPING of its arguments
  pub grouping_is : (arguments : Option (List (Operand SelectReference))) (g : GroupCall) → AreArguments arguments → make_group_call grouped arguments ≡ Ok g → IsGroupCall r g
  grouping_is None g h is = cc
  grouping_is (Some xs) g h is =
      let columns = bound (columns_only xs) (λ ns. grouping_over ns) g is in
      grouping_over_is columns.0 g (columns_only_is xs columns.0 h columns.1) columns.2

  -- an aggregate stands also where other columns may stand than in its argument
  module _ (allows : ℕ → Bool) (grouped_there : Bool) where
    abbrev there : Readable
    there = record { kinds = r.kinds; allows = allows; grouped = grouped_there }

    aggregate_of_one_is : (name : FunctionName) (xs : List (Operand SelectReference)) (g : GroupCall) → AllByRecursion (IsOperand r) xs → aggregate_of_one name xs ≡ Ok g → IsGroupCall there g
    aggregate_of_one_is name [] g h is = cc
    aggregate_of_one_is name (x ∷ []) g h is =
        let a = bound (aggregate_over over_columns name x) (λ a. Ok (of_rows a)) g is in
        subst (IsGroupCall there) (ok_is _ _ a.2) (aggregate_is r over_columns (IsOfKind r.kinds) (over_columns_is r) name x a.0 h.0 a.1)
    aggregate_of_one_is name (x ∷ y ∷ xs) g h is = cc

    pub group_aggregate_is : (name : FunctionName) (arguments : Option (List (Operand SelectReference))) (g : GroupCall) → AreArguments arguments → make_group_call (aggregates name) arguments ≡ Ok g → IsGroupCall there g
    group_aggregate_is Count None g h is = subst (IsGroupCall there) (ok_is _ _ is) tt
    group_aggregate_is name None g h is = cc
    group_aggregate_is name (Some xs) g h is = aggregate_of_one_is name xs g h is
