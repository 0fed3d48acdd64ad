-- An expression whose references stand at columns of their kinds is of its kind, and typed, over these columns.
use Rattle.std.proofs.Common.{◌≡◌, refl, ℕ, ◌++◌, Option}
use Rattle.std.specs.List.{AllByRecursion}
use Rattle.wd_plan.specs.declared.expression.ValueKind.{ValueKind}
use Rattle.wd_plan.specs.Fits.{Kinds, is_typed, kind_of}
use Rattle.wd_resolve_operand.specs.BoundExpressions.{BoundExpression, Reference, Literal, Negate, Arithmetic, Compare, Not, And, Or, IsNull, IsNotNull, Case, is_typed_over, kind_over, references, rebased}
use Rattle.wd_resolve_scope.proofs.Lists.{all_left, all_right}

module _ {L : Type 0} (kinds : L → Option ValueKind) (at : L → ℕ) (others : Kinds) where
  -- the column where a reference stands is of the reference's kind
  abbrev pub IsRebased : L → Type 0
  IsRebased l = others (at l) ≡ kinds l

  abbrev pub AreRebased : BoundExpression L → Type 0
  AreRebased f = AllByRecursion IsRebased (references f)

  pub rebased_kind : (f : BoundExpression L) → AreRebased f → kind_of others (rebased at f) ≡ kind_over kinds f
  rebased_kind (Reference l) h = h.0
  rebased_kind (Literal v kind) h = refl
  rebased_kind (Negate a) h = refl
  rebased_kind (Arithmetic op a b) h = refl
  rebased_kind (Compare op a b) h = refl
  rebased_kind (Not a) h = refl
  rebased_kind (And a b) h = refl
  rebased_kind (Or a b) h = refl
  rebased_kind (IsNull a) h = refl
  rebased_kind (IsNotNull a) h = refl
  rebased_kind (Case branch a b c) h = rebased_kind b (all_right IsRebased (references a) (references b) (all_left IsRebased (references a ++ references b) (references c) h))

  pub rebased_typed : (f : BoundExpression L) → AreRebased f → is_typed others (rebased at f) ≡ is_typed_over kinds f
  rebased_typed (Reference l) h = rw h.0 refl
  rebased_typed (Literal v kind) h = refl
  rebased_typed (Negate a) h = rw (rebased_typed a h, rebased_kind a h) refl
  rebased_typed (Arithmetic op a b) h = let p = all_left IsRebased (references a) (references b) h in let q = all_right IsRebased (references a) (references b) h in rw (rebased_typed a p, rebased_kind a p, rebased_typed b q, rebased_kind b q) refl
  rebased_typed (Compare op a b) h = let p = all_left IsRebased (references a) (references b) h in let q = all_right IsRebased (references a) (references b) h in rw (rebased_typed a p, rebased_kind a p, rebased_typed b q, rebased_kind b q) refl
  rebased_typed (Not a) h = rw (rebased_typed a h, rebased_kind a h) refl
  rebased_typed (And a b) h = let p = all_left IsRebased (references a) (references b) h in let q = all_right IsRebased (references a) (references b) h in rw (rebased_typed a p, rebased_kind a p, rebased_typed b q, rebased_kind b q) refl
  rebased_typed (Or a b) h = let p = all_left IsRebased (references a) (references b) h in let q = all_right IsRebased (references a) (references b) h in rw (rebased_typed a p, rebased_kind a p, rebased_typed b q, rebased_kind b q) refl
  rebased_typed (IsNull a) h = rebased_typed a h
  rebased_typed (IsNotNull a) h = rebased_typed a h
  rebased_typed (Case branch a b c) h =
      let s = all_left IsRebased (references a ++ references b) (references c) h in
      let p = all_left IsRebased (references a) (references b) s in
      let q = all_right IsRebased (references a) (references b) s in
      let r = all_right IsRebased (references a ++ references b) (references c) h in
      rw (rebased_typed a p, rebased_kind a p, rebased_typed b q, rebased_kind b q, rebased_typed c r, rebased_kind c r) refl
