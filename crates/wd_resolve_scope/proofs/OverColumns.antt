-- An expression over other references is of the kind of the one over references, and typed as it is, where the references keep their kinds: so
-- over the rows below windows, and over columns alone.
use Rattle.std.proofs.Common.{◌≡◌, ◌∙◌, refl, subst, ℕ, List, [], ◌∷◌, ◌++◌, Option, Ok, Err}
use Rattle.std.specs.List.{AllByRecursion}
use Rattle.wd_plan.specs.declared.expression.ValueKind.{ValueKind}
use Rattle.wd_plan.specs.Expressions.{Expression}
use Rattle.wd_resolve_operand.specs.Causes.{Meant, ◌>>=◌}
use Rattle.wd_resolve_operand.specs.BoundExpressions.{BoundExpression, Reference, Literal, Negate, Arithmetic, Compare, Not, And, Or, IsNull, IsNotNull, Case, is_typed_over, kind_over, references, over_references, rebased}
use Rattle.wd_resolve_call.specs.References.{SelectReference, of_row, call, below_windows, over_columns, over_rows}
use Rattle.wd_resolve_call.specs.Rows.{RowExpression, RowReference, column, of_group, from_column, over_from}
use Rattle.wd_resolve_scope.specs.Typed.{IsBoundExpression, IsReference, IsOfKind, IsRowExpression, IsRowReference, Readable, kind_at, row_kind_at}
use Rattle.wd_resolve_scope.proofs.Lists.{all_append, all_left, all_right}
use Rattle.wd_resolve_scope.proofs.Rebased.{rebased_kind, rebased_typed}
use Rattle.wd_resolve_call.proofs.Meanings.{bound, ok_is}

-- ---- kinds

module _ {K L : Type 0} (reference : K → Meant L) (kinds : K → Option ValueKind) (others : L → Option ValueKind) (kept : (k : K) (l : L) → reference k ≡ Ok l → others l ≡ kinds k) where
  abbrev Agrees : BoundExpression K → BoundExpression L → Type 0
  Agrees f x = (is_typed_over others x ≡ is_typed_over kinds f) × (kind_over others x ≡ kind_over kinds f)

  pub agrees : (f : BoundExpression K) (x : BoundExpression L) → over_references reference f ≡ Ok x → Agrees f x
  agrees (Reference k) x h =
      let y = bound (reference k) (λ m. Ok (Reference m)) x h in
      subst (Agrees (Reference k)) (ok_is _ _ y.2) (rw (kept k y.0 y.1) refl, kept k y.0 y.1)
  agrees (Literal v kind) x h = subst (Agrees (Literal v kind)) (ok_is _ _ h) (refl, refl)
  agrees (Negate a) x h =
      let y = bound (over_references reference a) (λ z. Ok (Negate z)) x h in
      let p = agrees a y.0 y.1 in
      subst (Agrees (Negate a)) (ok_is _ _ y.2) (rw (p.0, p.1) refl, refl)
  agrees (Arithmetic op a b) x h =
      let y = bound (over_references reference a) (λ z. over_references reference b >>= λ w. Ok (Arithmetic op z w)) x h in
      let z = bound (over_references reference b) (λ w. Ok (Arithmetic op y.0 w)) x y.2 in
      let p = agrees a y.0 y.1 in
      let q = agrees b z.0 z.1 in
      subst (Agrees (Arithmetic op a b)) (ok_is _ _ z.2) (rw (p.0, p.1, q.0, q.1) refl, refl)
  agrees (Compare op a b) x h =
      let y = bound (over_references reference a) (λ z. over_references reference b >>= λ w. Ok (Compare op z w)) x h in
      let z = bound (over_references reference b) (λ w. Ok (Compare op y.0 w)) x y.2 in
      let p = agrees a y.0 y.1 in
      let q = agrees b z.0 z.1 in
      subst (Agrees (Compare op a b)) (ok_is _ _ z.2) (rw (p.0, p.1, q.0, q.1) refl, refl)
  agrees (Not a) x h =
      let y = bound (over_references reference a) (λ z. Ok (Not z)) x h in
      let p = agrees a y.0 y.1 in
      subst (Agrees (Not a)) (ok_is _ _ y.2) (rw (p.0, p.1) refl, refl)
  agrees (And a b) x h =
      let y = bound (over_references reference a) (λ z. over_references reference b >>= λ w. Ok (And z w)) x h in
      let z = bound (over_references reference b) (λ w. Ok (And y.0 w)) x y.2 in
      let p = agrees a y.0 y.1 in
      let q = agrees b z.0 z.1 in
      subst (Agrees (And a b)) (ok_is _ _ z.2) (rw (p.0, p.1, q.0, q.1) refl, refl)
  agrees (Or a b) x h =
      let y = bound (over_references reference a) (λ z. over_references reference b >>= λ w. Ok (Or z w)) x h in
      let z = bound (over_references reference b) (λ w. Ok (Or y.0 w)) x y.2 in
      let p = agrees a y.0 y.1 in
      let q = agrees b z.0 z.1 in
      subst (Agrees (Or a b)) (ok_is _ _ z.2) (rw (p.0, p.1, q.0, q.1) refl, refl)
  agrees (IsNull a) x h =
      let y = bound (over_references reference a) (λ z. Ok (IsNull z)) x h in
      let p = agrees a y.0 y.1 in
      subst (Agrees (IsNull a)) (ok_is _ _ y.2) (p.0, refl)
  agrees (IsNotNull a) x h =
      let y = bound (over_references reference a) (λ z. Ok (IsNotNull z)) x h in
      let p = agrees a y.0 y.1 in
      subst (Agrees (IsNotNull a)) (ok_is _ _ y.2) (p.0, refl)
  agrees (Case branch a b c) x h =
      let y = bound (over_references reference a) (λ z. over_references reference b >>= λ w. over_references reference c >>= λ v. Ok (Case branch z w v)) x h in
      let z = bound (over_references reference b) (λ w. over_references reference c >>= λ v. Ok (Case branch y.0 w v)) x y.2 in
      let w = bound (over_references reference c) (λ v. Ok (Case branch y.0 z.0 v)) x z.2 in
      let p = agrees a y.0 y.1 in
      let q = agrees b z.0 z.1 in
      let r = agrees c w.0 w.1 in
      subst (Agrees (Case branch a b c)) (ok_is _ _ w.2) (rw (p.0, p.1, q.0, q.1, r.0, r.1) refl, q.1)

-- ---- references

module _ {K L : Type 0} (reference : K → Meant L) (P : K → Type 0) (Q : L → Type 0) (moved : (k : K) (l : L) → reference k ≡ Ok l → P k → Q l) where
  abbrev Holds : BoundExpression L → Type 0
  Holds x = AllByRecursion Q (references x)

  two : (a b : BoundExpression K) (x y : BoundExpression L) → (AllByRecursion P (references a) → Holds x) → (AllByRecursion P (references b) → Holds y) → AllByRecursion P (references a ++ references b) → AllByRecursion Q (references x ++ references y)
  two a b x y f g h = all_append Q (references x) (references y) (f (all_left P (references a) (references b) h)) (g (all_right P (references a) (references b) h))

  pub references_kept : (f : BoundExpression K) (x : BoundExpression L) → over_references reference f ≡ Ok x → AllByRecursion P (references f) → Holds x
  references_kept (Reference k) x h p =
      let y = bound (reference k) (λ m. Ok (Reference m)) x h in
      subst Holds (ok_is _ _ y.2) (moved k y.0 y.1 p.0, tt)
  references_kept (Literal v kind) x h p = subst Holds (ok_is _ _ h) tt
  references_kept (Negate a) x h p =
      let y = bound (over_references reference a) (λ z. Ok (Negate z)) x h in
      subst Holds (ok_is _ _ y.2) (references_kept a y.0 y.1 p)
  references_kept (Arithmetic op a b) x h p =
      let y = bound (over_references reference a) (λ z. over_references reference b >>= λ w. Ok (Arithmetic op z w)) x h in
      let z = bound (over_references reference b) (λ w. Ok (Arithmetic op y.0 w)) x y.2 in
      subst Holds (ok_is _ _ z.2) (two a b y.0 z.0 (references_kept a y.0 y.1) (references_kept b z.0 z.1) p)
  references_kept (Compare op a b) x h p =
      let y = bound (over_references reference a) (λ z. over_references reference b >>= λ w. Ok (Compare op z w)) x h in
      let z = bound (over_references reference b) (λ w. Ok (Compare op y.0 w)) x y.2 in
      subst Holds (ok_is _ _ z.2) (two a b y.0 z.0 (references_kept a y.0 y.1) (references_kept b z.0 z.1) p)
  references_kept (Not a) x h p =
      let y = bound (over_references reference a) (λ z. Ok (Not z)) x h in
      subst Holds (ok_is _ _ y.2) (references_kept a y.0 y.1 p)
  references_kept (And a b) x h p =
      let y = bound (over_references reference a) (λ z. over_references reference b >>= λ w. Ok (And z w)) x h in
      let z = bound (over_references reference b) (λ w. Ok (And y.0 w)) x y.2 in
      subst Holds (ok_is _ _ z.2) (two a b y.0 z.0 (references_kept a y.0 y.1) (references_kept b z.0 z.1) p)
  references_kept (Or a b) x h p =
      let y = bound (over_references reference a) (λ z. over_references reference b >>= λ w. Ok (Or z w)) x h in
      let z = bound (over_references reference b) (λ w. Ok (Or y.0 w)) x y.2 in
      subst Holds (ok_is _ _ z.2) (two a b y.0 z.0 (references_kept a y.0 y.1) (references_kept b z.0 z.1) p)
  references_kept (IsNull a) x h p =
      let y = bound (over_references reference a) (λ z. Ok (IsNull z)) x h in
      subst Holds (ok_is _ _ y.2) (references_kept a y.0 y.1 p)
  references_kept (IsNotNull a) x h p =
      let y = bound (over_references reference a) (λ z. Ok (IsNotNull z)) x h in
      subst Holds (ok_is _ _ y.2) (references_kept a y.0 y.1 p)
  references_kept (Case branch a b c) x h p =
      let y = bound (over_references reference a) (λ z. over_references reference b >>= λ w. over_references reference c >>= λ v. Ok (Case branch z w v)) x h in
      let z = bound (over_references reference b) (λ w. over_references reference c >>= λ v. Ok (Case branch y.0 w v)) x y.2 in
      let w = bound (over_references reference c) (λ v. Ok (Case branch y.0 z.0 v)) x z.2 in
      let s = all_left P (references a ++ references b) (references c) p in
      subst Holds (ok_is _ _ w.2) (all_append Q (references y.0 ++ references z.0) (references w.0) (two a b y.0 z.0 (references_kept a y.0 y.1) (references_kept b z.0 z.1) s) (references_kept c w.0 w.1 (all_right P (references a ++ references b) (references c) p)))

-- ---- over the rows below windows, and over columns alone

module _ (r : Readable) where
  row_kept : (k : SelectReference) (l : RowReference) → below_windows k ≡ Ok l → row_kind_at r.kinds l ≡ kind_at r k
  row_kept (of_row m) l h = subst (λ n. row_kind_at r.kinds n ≡ row_kind_at r.kinds m) (ok_is _ _ h) refl
  row_kept (call c) l h = cc

  row_moved : (k : SelectReference) (l : RowReference) → below_windows k ≡ Ok l → IsReference r k → IsRowReference r l
  row_moved (of_row m) l h g = subst (IsRowReference r) (ok_is _ _ h) g
  row_moved (call c) l h g = cc

  pub over_rows_is : (f : BoundExpression SelectReference) (kind : ValueKind) (x : RowExpression) → IsBoundExpression r f kind → over_rows f ≡ Ok x → IsRowExpression r x kind
  over_rows_is f kind x h is =
      let p = agrees below_windows (kind_at r) (row_kind_at r.kinds) row_kept f x is in
      record { is = p.0 ∙ h.is; has = p.1 ∙ h.has; references_are = references_kept below_windows (IsReference r) (IsRowReference r) row_moved f x is h.references_are }

  column_kept : (k : RowReference) (n : ℕ) → from_column k ≡ Ok n → r.kinds n ≡ row_kind_at r.kinds k
  column_kept (column m) n h = subst (λ c. r.kinds c ≡ r.kinds m) (ok_is _ _ h) refl
  column_kept (of_group c) n h = cc

  -- each column stands at itself
  at_itself : (columns : List ℕ) → AllByRecursion (λ n. r.kinds n ≡ r.kinds n) columns
  at_itself [] = tt
  at_itself (n ∷ columns) = (refl, at_itself columns)

  from_is : (f : RowExpression) (kind : ValueKind) (x : Expression) → IsRowExpression r f kind → over_from f ≡ Ok x → IsOfKind r.kinds x kind
  from_is f kind x h is =
      let e = bound (over_references from_column f) (λ g. Ok (rebased (λ n. n) g)) x is in
      let p = agrees from_column (row_kind_at r.kinds) r.kinds column_kept f e.0 e.1 in
      subst (λ y. IsOfKind r.kinds y kind) (ok_is _ _ e.2) (record {
        is = rebased_typed r.kinds (λ n. n) r.kinds e.0 (at_itself (references e.0)) ∙ p.0 ∙ h.is;
        has = rebased_kind r.kinds (λ n. n) r.kinds e.0 (at_itself (references e.0)) ∙ p.1 ∙ h.has;
      })

  pub over_columns_is : (f : BoundExpression SelectReference) (kind : ValueKind) (x : Expression) → IsBoundExpression r f kind → over_columns f ≡ Ok x → IsOfKind r.kinds x kind
  over_columns_is f kind x h is =
      let g = bound (over_rows f) (λ g. over_from g) x is in
      from_is g.0 kind x (over_rows_is f kind g.0 h g.1) g.2
