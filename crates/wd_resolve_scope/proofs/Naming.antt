-- The column that a name stands for, found from left to right.
use Rattle.std.proofs.Common.{◌≡◌, refl, subst, ℕ, List, [], ◌∷◌, ◌++◌, Bool, true, false, cond, length, filter, zip, Option, Some, None, slice_get, Ok, Err}
use Rattle.std.specs.List.{AllByRecursion, range_with_len}
use Rattle.std.proofs.lemmas.List.{append_assoc, length_push}
use Rattle.wd_plan.specs.declared.expression.ValueKind.{ValueKind}
use Rattle.wd_resolve_operand.specs.declared.cause.Cause.TheVariants.{Ambiguous}
use Rattle.wd_resolve_operand.specs.Causes.{Meant}
use Rattle.wd_resolve_scope.specs.declared.scope.ScopeColumn.{ScopeColumn}
use Rattle.wd_resolve_scope.specs.Names.{the_only}

-- the one column of those found and these
abbrev pub with_found : Option (ℕ × ValueKind) → List (ℕ × ScopeColumn) → Meant (ℕ × ValueKind)
with_found None columns = the_only columns
with_found (Some c) [] = Ok c
with_found (Some c) (other ∷ others) = Err Ambiguous

pub found_first : (c : ℕ × ScopeColumn) (columns : List (ℕ × ScopeColumn)) → the_only (c ∷ columns) ≡ with_found (Some (c.0, c.1.kind)) columns
found_first c [] = refl
found_first c (other ∷ columns) = refl

-- ---- columns with their numbers

get_mid : {A : Type 0} (xs : List A) (y : A) (ys : List A) → slice_get (xs ++ y ∷ ys) (length xs) ≡ Some y
get_mid [] y ys = refl
get_mid (x ∷ xs) y ys = get_mid xs y ys

-- elements with their numbers stand at these numbers
pub numbered_after : {A : Type 0} (before xs : List A) → AllByRecursion (λ (x : ℕ × A). slice_get (before ++ xs) x.0 ≡ Some x.1) (zip (range_with_len (length before) (length xs)) xs)
numbered_after before [] = tt
numbered_after before (x ∷ xs) = (
  get_mid before x xs,
  subst (λ n. AllByRecursion (λ (y : ℕ × _). slice_get (before ++ x ∷ xs) y.0 ≡ Some y.1) (zip (range_with_len n (length xs)) xs)) (length_push before x)
      (subst (λ ys. AllByRecursion (λ (y : ℕ × _). slice_get ys y.0 ≡ Some y.1) (zip (range_with_len (length (before ++ x ∷ [])) (length xs)) xs)) (append_assoc before (x ∷ []) xs) (numbered_after (before ++ x ∷ []) xs)),
)

pub all_filter : {A : Type 0} (P : A → Type 0) (t : A → Bool) (xs : List A) → AllByRecursion P xs → AllByRecursion P (filter t xs)
all_filter P t [] h = tt
all_filter P t (x ∷ xs) h = by (t x) (all_filter P t xs h.1)
  where
    by : (b : Bool) → AllByRecursion P (filter t xs) → AllByRecursion P (cond b (x ∷ filter t xs) (filter t xs))
    by true rest = (h.0, rest)
    by false rest = rest
