-- Operators over operands that are typed.
use Rattle.std.proofs.Common.{◌≡◌, sym, refl, subst, ℕ, ℤ, pos, neg_ℤ, ◌^◌, nat_le, Bool, true, false, cond, ◌&&◌, List, [], ◌∷◌, ◌++◌, Ok, Err}
use Rattle.std.specs.List.{AllByRecursion}
use Rattle.wd_plan.specs.declared.expression.ValueKind.{ValueKind}
use Rattle.wd_plan.specs.declared.expression.ValueKind.TheVariants.{Number, Truth}
use Rattle.wd_plan.specs.declared.expression.Branch.{Branch}
use Rattle.wd_plan.specs.declared.expression.Branch.TheVariants.{First, Later}
use Rattle.wd_plan.specs.Fits.{are_alike, is_kind, same_kind}
use Rattle.wd_resolve_operand.specs.declared.cause.Cause.TheVariants.{Types}
use Rattle.wd_resolve_operand.specs.Causes.{Meant, ◌>>=◌}
use Rattle.wd_syntax.specs.declared.expression.Operator.{Operator}
use Rattle.wd_syntax.specs.declared.expression.Operator.TheVariants as o
use Rattle.wd_syntax.specs.declared.expression.Sign.{Sign}
use Rattle.wd_syntax.specs.declared.expression.Sign.TheVariants as s
use Rattle.wd_syntax.specs.declared.expression.Literal.{Literal as Written}
use Rattle.wd_syntax.specs.declared.expression.Literal.TheVariants as l
use Rattle.wd_resolve_operand.specs.BoundExpressions.{BoundExpression, Not, Case, is_typed_over, kind_over, references}
use Rattle.wd_resolve_operand.specs.Operands.{Operand, bare_null, typed, of_kind, settled, operand_kind, result_kind, over_both, combined, negated, sign_over, signed, int_literal, unsigned_number, number, literal, signed_number, arms_over, case_kind, case_of}
use Rattle.wd_resolve_operand.specs.Operands as operands
use Rattle.wd_resolve_call.specs.References.{SelectReference}
use Rattle.wd_resolve_scope.specs.Typed.{IsBoundExpression, IsReference, IsOperand, Readable, kind_at}
use Rattle.wd_resolve_scope.proofs.Lists.{all_append}
use Rattle.wd_resolve_scope.proofs.Typing.{and_both, same_kind-is, same_kind-itself}
use Rattle.wd_resolve_call.proofs.Meanings.{bound, ok_is}

module _ (r : Readable) where
  -- a place that asks for a kind has it
  pub asked : (kind : ValueKind) (x : Operand SelectReference) (e : BoundExpression SelectReference) → IsOperand r x → of_kind kind x ≡ Ok e → IsBoundExpression r e kind
  asked kind bare_null e h is = subst (λ f. IsBoundExpression r f kind) (ok_is _ _ is) (record { is = refl; has = refl; references_are = tt })
  asked kind (typed a other) e h is = by (same_kind kind other) refl is
    where
      by : (b : Bool) → same_kind kind other ≡ b → cond b (Ok a) (Err Types) ≡ Ok e → IsBoundExpression r e kind
      by true same is = subst (λ f. IsBoundExpression r f kind) (ok_is _ _ is) (subst (IsBoundExpression r a) (sym (same_kind-is kind other same)) h)
      by false same is = cc

  pub settled_is : (x : Operand SelectReference) → IsOperand r x → IsBoundExpression r (settled x) (operands.kind_of x)
  settled_is bare_null h = record { is = refl; has = refl; references_are = tt }
  settled_is (typed e kind) h = h

  side : {e : BoundExpression SelectReference} {kind : ValueKind} → IsBoundExpression r e kind → (is_typed_over (kind_at r) e && is_kind kind (kind_over (kind_at r) e)) ≡ true
  side {e} {kind} h = and_both _ _ h.is (rw h.has (same_kind-itself kind))

  alike : {a b : BoundExpression SelectReference} {kind : ValueKind} → IsBoundExpression r a kind → IsBoundExpression r b kind → are_alike (kind_over (kind_at r) a) (kind_over (kind_at r) b) ≡ true
  alike {a} {b} {kind} h g = rw (h.has, g.has) (same_kind-itself kind)

  sides : {a b : BoundExpression SelectReference} {kind other : ValueKind} → IsBoundExpression r a kind → IsBoundExpression r b other → AllByRecursion (IsReference r) (references a ++ references b)
  sides {a} {b} h g = all_append (IsReference r) (references a) (references b) h.references_are g.references_are

  over_both_is : (operator : Operator) (x y : Operand SelectReference) (a b : BoundExpression SelectReference) → IsBoundExpression r a (operand_kind operator x y) → IsBoundExpression r b (operand_kind operator x y) → IsBoundExpression r (over_both operator a b) (result_kind operator)
  over_both_is o.Or x y a b h g = record { is = and_both _ _ (side h) (side g); has = refl; references_are = sides h g }
  over_both_is o.And x y a b h g = record { is = and_both _ _ (side h) (side g); has = refl; references_are = sides h g }
  over_both_is o.Equal x y a b h g = record { is = and_both _ _ (and_both _ _ h.is g.is) (alike h g); has = refl; references_are = sides h g }
  over_both_is o.NotEqual x y a b h g = record { is = and_both _ _ (and_both _ _ h.is g.is) (alike h g); has = refl; references_are = sides h g }
  over_both_is o.Less x y a b h g = record { is = and_both _ _ (and_both _ _ h.is g.is) (alike h g); has = refl; references_are = sides h g }
  over_both_is o.LessOrEqual x y a b h g = record { is = and_both _ _ (and_both _ _ h.is g.is) (alike h g); has = refl; references_are = sides h g }
  over_both_is o.Greater x y a b h g = record { is = and_both _ _ (and_both _ _ h.is g.is) (alike h g); has = refl; references_are = sides h g }
  over_both_is o.GreaterOrEqual x y a b h g = record { is = and_both _ _ (and_both _ _ h.is g.is) (alike h g); has = refl; references_are = sides h g }
  over_both_is o.Add x y a b h g = record { is = and_both _ _ (side h) (side g); has = refl; references_are = sides h g }
  over_both_is o.Subtract x y a b h g = record { is = and_both _ _ (side h) (side g); has = refl; references_are = sides h g }
  over_both_is o.Multiply x y a b h g = record { is = and_both _ _ (side h) (side g); has = refl; references_are = sides h g }
  over_both_is o.Divide x y a b h g = record { is = and_both _ _ (side h) (side g); has = refl; references_are = sides h g }
  over_both_is o.Remainder x y a b h g = record { is = and_both _ _ (side h) (side g); has = refl; references_are = sides h g }

  pub combined_is : (operator : Operator) (x y z : Operand SelectReference) → IsOperand r x → IsOperand r y → combined operator x y ≡ Ok z → IsOperand r z
  combined_is operator x y z h g is =
      let kind = operand_kind operator x y in
      let l = bound (of_kind kind x) (λ left. of_kind kind y >>= λ right. Ok (typed (over_both operator left right) (result_kind operator))) z is in
      let s = bound (of_kind kind y) (λ right. Ok (typed (over_both operator l.0 right) (result_kind operator))) z l.2 in
      subst (IsOperand r) (ok_is _ _ s.2) (over_both_is operator x y l.0 s.0 (asked kind x l.0 h l.1) (asked kind y s.0 g s.1))

  pub negated_is : (x z : Operand SelectReference) → IsOperand r x → negated x ≡ Ok z → IsOperand r z
  negated_is x z h is =
      let a = bound (of_kind Truth x) (λ inner. Ok (typed (Not inner) Truth)) z is in
      subst (IsOperand r) (ok_is _ _ a.2) (let one = asked Truth x a.0 h a.1 in record { is = side one; has = refl; references_are = one.references_are })

  sign_over_is : (sign : Sign) (e : BoundExpression SelectReference) → IsBoundExpression r e Number → IsBoundExpression r (sign_over sign e) Number
  sign_over_is s.Plus e h = h
  sign_over_is s.Minus e h = record { is = side h; has = refl; references_are = h.references_are }

  pub signed_is : (sign : Sign) (x z : Operand SelectReference) → IsOperand r x → signed sign x ≡ Ok z → IsOperand r z
  signed_is sign x z h is =
      let a = bound (of_kind Number x) (λ inner. Ok (typed (sign_over sign inner) Number)) z is in
      subst (IsOperand r) (ok_is _ _ a.2) (sign_over_is sign a.0 (asked Number x a.0 h a.1))

  pub tested_is : (not : Bool) (x : Operand SelectReference) → IsOperand r x → IsOperand r (operands.tested not x)
  tested_is true x h = let one = settled_is x h in record { is = one.is; has = refl; references_are = one.references_are }
  tested_is false x h = let one = settled_is x h in record { is = one.is; has = refl; references_are = one.references_are }

  int_is : (n : ℤ) (z : Operand SelectReference) → int_literal n ≡ Ok z → IsOperand r z
  int_is n z is = subst (IsOperand r) (ok_is _ _ is) (record { is = refl; has = refl; references_are = tt })

  unsigned_is : (n : ℕ) (z : Operand SelectReference) → unsigned_number n ≡ Ok z → IsOperand r z
  unsigned_is n z is = let a = bound (number n) (λ m. int_literal (pos m)) z is in int_is (pos a.0) z a.2

  pub literal_is : (x : Written) (z : Operand SelectReference) → literal x ≡ Ok z → IsOperand r z
  literal_is (l.Number n) z is = unsigned_is n z is
  literal_is (l.Text text) z is = subst (IsOperand r) (ok_is _ _ is) (record { is = refl; has = refl; references_are = tt })
  literal_is (l.Truth b) z is = subst (IsOperand r) (ok_is _ _ is) (record { is = refl; has = refl; references_are = tt })
  literal_is l.Null z is = subst (IsOperand r) (ok_is _ _ is) tt

  pub signed_number_is : (sign : Sign) (n : ℕ) (z : Operand SelectReference) → signed_number sign n ≡ Ok z → IsOperand r z
  signed_number_is s.Plus n z is = unsigned_is n z is
  signed_number_is s.Minus n z is = by (nat_le n (2 ^ 63)) is
    where
      by : (b : Bool) → cond b (int_literal (neg_ℤ (pos n))) (Err Types) ≡ Ok z → IsOperand r z
      by true is = int_is (neg_ℤ (pos n)) z is
      by false is = cc

  -- ---- CASE

  abbrev pub AreArms : List (Operand SelectReference × Operand SelectReference) → Type 0
  AreArms [] = Unit {0}
  AreArms (arm ∷ arms) = IsOperand r arm.0 × IsOperand r arm.1 × AreArms arms

  pub arms_is : (branch : Branch) (kind : ValueKind) (arms : List (Operand SelectReference × Operand SelectReference)) (rest : Meant (BoundExpression SelectReference)) (e : BoundExpression SelectReference) → AreArms arms → ((f : BoundExpression SelectReference) → rest ≡ Ok f → IsBoundExpression r f kind) → arms_over branch kind arms rest ≡ Ok e → IsBoundExpression r e kind
  arms_is branch kind [] rest e h g is = g e is
  arms_is branch kind (arm ∷ arms) rest e h g is =
      let o = bound (arms_over Later kind arms rest) (λ otherwise. of_kind Truth arm.0 >>= λ when. of_kind kind arm.1 >>= λ gives. Ok (Case branch when gives otherwise)) e is in
      let w = bound (of_kind Truth arm.0) (λ when. of_kind kind arm.1 >>= λ gives. Ok (Case branch when gives o.0)) e o.2 in
      let t = bound (of_kind kind arm.1) (λ gives. Ok (Case branch w.0 gives o.0)) e w.2 in
      let when = asked Truth arm.0 w.0 h.0 w.1 in
      let gives = asked kind arm.1 t.0 h.1 t.1 in
      let otherwise = arms_is Later kind arms rest o.0 h.2 g o.1 in
      subst (λ f. IsBoundExpression r f kind) (ok_is _ _ t.2) (record { is = and_both _ _ (side when) (and_both _ _ (and_both _ _ gives.is otherwise.is) (alike gives otherwise)); has = gives.has; references_are = all_append (IsReference r) (references w.0 ++ references t.0) (references o.0) (sides when gives) otherwise.references_are })

  pub case_is : (arms : List (Operand SelectReference × Operand SelectReference)) (other z : Operand SelectReference) → AreArms arms → IsOperand r other → case_of arms other ≡ Ok z → IsOperand r z
  case_is arms other z h g is =
      let kind = case_kind arms other in
      let last = bound (of_kind kind other) (λ rest. arms_over First kind arms (Ok rest) >>= λ whole. Ok (typed whole kind)) z is in
      let a = bound (arms_over First kind arms (Ok last.0)) (λ whole. Ok (typed whole kind)) z last.2 in
      subst (IsOperand r) (ok_is _ _ a.2) (arms_is First kind arms (Ok last.0) a.0 h (λ e i. subst (λ f. IsBoundExpression r f kind) (ok_is _ _ i) (asked kind other last.0 g last.1)) a.1)
