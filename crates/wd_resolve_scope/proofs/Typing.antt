-- Kinds of columns.
use Rattle.std.proofs.Common.{◌≡◌, refl, ℕ, Bool, true, false, ◌&&◌, Option, Some, None, is_some}
use Rattle.std.proofs.lemmas.Bool.{false≢true}
use Rattle.wd_plan.specs.declared.expression.ValueKind.{ValueKind}
use Rattle.wd_plan.specs.declared.expression.ValueKind.TheVariants.{Number, Text, Truth}
use Rattle.wd_plan.specs.Expressions.{Expression, Column, Literal, Negate, Arithmetic, Compare, Not, And, Or, IsNull, IsNotNull, Case}
use Rattle.wd_plan.specs.Fits.{Kinds, are_alike, is_kind, is_typed, kind_of, same_kind}
use Rattle.wd_resolve_scope.specs.Typed.{IsOfKind}

-- ---- what is there

pub some_is : {A : Type 0} (x y : A) → ◌≡◌ {A = Option A} (Some x) (Some y) → x ≡ y
some_is x y h = cc

-- ---- kinds

pub same_kind-is : (a b : ValueKind) → same_kind a b ≡ true → a ≡ b
same_kind-is Number Number h = refl
same_kind-is Text Text h = refl
same_kind-is Truth Truth h = refl
same_kind-is Number Text h = absurd (false≢true h)
same_kind-is Number Truth h = absurd (false≢true h)
same_kind-is Text Number h = absurd (false≢true h)
same_kind-is Text Truth h = absurd (false≢true h)
same_kind-is Truth Number h = absurd (false≢true h)
same_kind-is Truth Text h = absurd (false≢true h)

pub same_kind-itself : (a : ValueKind) → same_kind a a ≡ true
same_kind-itself Number = refl
same_kind-itself Text = refl
same_kind-itself Truth = refl

pub both : (a b : Bool) → (a && b) ≡ true → (a ≡ true) × (b ≡ true)
both true b h = (refl, h)
both false b h = absurd (false≢true h)

pub and_both : (a b : Bool) → a ≡ true → b ≡ true → (a && b) ≡ true
and_both a b e f = rw e f

-- more columns of known kinds change no kind
abbrev pub Extends : Kinds → Kinds → Type 0
Extends kinds others = (c : ℕ) (kind : ValueKind) → kinds c ≡ Some kind → others c ≡ Some kind

module _ (kinds others : Kinds) (more : Extends kinds others) where
  kind_kept : (e : Expression) (kind : ValueKind) → kind_of kinds e ≡ Some kind → kind_of others e ≡ Some kind
  kind_kept (Column c) kind h = more c kind h
  kind_kept (Literal v k) kind h = h
  kind_kept (Negate a) kind h = h
  kind_kept (Arithmetic op a b) kind h = h
  kind_kept (Compare op a b) kind h = h
  kind_kept (Not a) kind h = h
  kind_kept (And a b) kind h = h
  kind_kept (Or a b) kind h = h
  kind_kept (IsNull a) kind h = h
  kind_kept (IsNotNull a) kind h = h
  kind_kept (Case branch a b c) kind h = kind_kept b kind h

  is_kind_kept : (k : ValueKind) (e : Expression) → is_kind k (kind_of kinds e) ≡ true → is_kind k (kind_of others e) ≡ true
  is_kind_kept k e h = by (kind_of kinds e) refl h
    where
      by : (o : Option ValueKind) → kind_of kinds e ≡ o → is_kind k o ≡ true → is_kind k (kind_of others e) ≡ true
      by None is h = absurd (false≢true h)
      by (Some j) is h = rw (kind_kept e j is) h

  alike_kept : (a b : Expression) → are_alike (kind_of kinds a) (kind_of kinds b) ≡ true → are_alike (kind_of others a) (kind_of others b) ≡ true
  alike_kept a b h = by (kind_of kinds a) refl h
    where
      by : (o : Option ValueKind) → kind_of kinds a ≡ o → are_alike o (kind_of kinds b) ≡ true → are_alike (kind_of others a) (kind_of others b) ≡ true
      by None is h = absurd (false≢true h)
      by (Some j) is h = rw (kind_kept a j is) (is_kind_kept j b h)

  column_kept : (c : ℕ) → is_some (kinds c) ≡ true → is_some (others c) ≡ true
  column_kept c h = by (kinds c) refl h
    where
      by : (o : Option ValueKind) → kinds c ≡ o → is_some o ≡ true → is_some (others c) ≡ true
      by None is h = absurd (false≢true h)
      by (Some j) is h = rw (more c j is) refl

  pub typed_kept : (e : Expression) → is_typed kinds e ≡ true → is_typed others e ≡ true
  typed_kept (Column c) h = column_kept c h
  typed_kept (Literal v k) h = h
  typed_kept (Negate a) h = let p = both _ _ h in and_both _ _ (typed_kept a p.0) (is_kind_kept Number a p.1)
  typed_kept (Arithmetic op a b) h = let p = both _ _ h in let q = both _ _ p.0 in let r = both _ _ p.1 in and_both _ _ (and_both _ _ (typed_kept a q.0) (is_kind_kept Number a q.1)) (and_both _ _ (typed_kept b r.0) (is_kind_kept Number b r.1))
  typed_kept (Compare op a b) h = let p = both _ _ h in let q = both _ _ p.0 in and_both _ _ (and_both _ _ (typed_kept a q.0) (typed_kept b q.1)) (alike_kept a b p.1)
  typed_kept (Not a) h = let p = both _ _ h in and_both _ _ (typed_kept a p.0) (is_kind_kept Truth a p.1)
  typed_kept (And a b) h = let p = both _ _ h in let q = both _ _ p.0 in let r = both _ _ p.1 in and_both _ _ (and_both _ _ (typed_kept a q.0) (is_kind_kept Truth a q.1)) (and_both _ _ (typed_kept b r.0) (is_kind_kept Truth b r.1))
  typed_kept (Or a b) h = let p = both _ _ h in let q = both _ _ p.0 in let r = both _ _ p.1 in and_both _ _ (and_both _ _ (typed_kept a q.0) (is_kind_kept Truth a q.1)) (and_both _ _ (typed_kept b r.0) (is_kind_kept Truth b r.1))
  typed_kept (IsNull a) h = typed_kept a h
  typed_kept (IsNotNull a) h = typed_kept a h
  typed_kept (Case branch a b c) h =
      let p = both _ _ h in let q = both _ _ p.0 in let r = both _ _ p.1 in let s = both _ _ r.0 in
      and_both _ _ (and_both _ _ (typed_kept a q.0) (is_kind_kept Truth a q.1)) (and_both _ _ (and_both _ _ (typed_kept b s.0) (typed_kept c s.1)) (alike_kept b c r.1))

  pub kept : {e : Expression} {kind : ValueKind} → IsOfKind kinds e kind → IsOfKind others e kind
  kept {e} {kind} h = record { is = typed_kept e h.is; has = kind_kept e kind h.has }

pub column_is : (kinds : Kinds) (c : ℕ) (kind : ValueKind) → kinds c ≡ Some kind → IsOfKind kinds (Column c) kind
column_is kinds c kind h = record { is = rw h refl; has = h }
