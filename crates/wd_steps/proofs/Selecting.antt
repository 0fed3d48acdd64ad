-- Outputs that are columns, and results that are all values.
use Rattle.std.proofs.Common.{◌≡◌, ◌∙◌, ℕ, suc, ◌<◌, false, List, [], ◌∷◌, map, length, get_or, Result, Ok, refl, ap, arith}
use Rattle.std.specs.List.{list_any}
use Rattle.wd_value.specs.declared.value.Fault.{Fault}
use Rattle.wd_value.specs.declared.value.Fault.TheVariants.{DivisionByZero, OutOfRange}
use Rattle.wd_plan.specs.declared.expression.Expr.{Expr}
use Rattle.wd_plan.specs.declared.expression.Expr.TheVariants as code
use Rattle.wd_plan.specs.Expressions.{expression_of}
use Rattle.wd_plan.specs.Faults.{all_ok, has_fault, values_among}
use Rattle.wd_steps.specs.Selections.{is_column}

-- ---- results that are all values

no_fault : {X : Type 0} (f : Fault) (xs : List X) → list_any (has_fault f) (map (λ x. Ok x) xs) ≡ false
no_fault f [] = refl
no_fault DivisionByZero (x ∷ xs) = no_fault DivisionByZero xs
no_fault OutOfRange (x ∷ xs) = no_fault OutOfRange xs

all_values : {X : Type 0} (xs : List X) → values_among {X = X} (map (λ x. Ok x) xs) ≡ xs
all_values [] = refl
all_values (x ∷ xs) = ap (λ ys. x ∷ ys) (all_values xs)

all_ok-oks : {X : Type 0} (xs : List X) → all_ok (map (λ x. Ok x) xs) ≡ Ok xs
all_ok-oks xs = rw (no_fault DivisionByZero xs, no_fault OutOfRange xs, all_values xs) refl

map_oks : {A X : Type 0} (g : A → Result X Fault) (f : A → X) (xs : List A) → ((k : ℕ) (d : A) → k < length xs → g (get_or xs k d) ≡ Ok (f (get_or xs k d))) → map g xs ≡ map (λ x. Ok x) (map f xs)
map_oks g f [] each = refl
map_oks g f (x ∷ xs) each =
    (λ i. each 0 x (omega arith) i ∷ map g xs)
    ∙ ap (λ ys. Ok (f x) ∷ ys) (map_oks g f xs (λ k d low. each (suc k) d (omega arith)))

pub all_ok-map : {A X : Type 0} (g : A → Result X Fault) (f : A → X) (xs : List A) → ((k : ℕ) (d : A) → k < length xs → g (get_or xs k d) ≡ Ok (f (get_or xs k d))) → all_ok (map g xs) ≡ Ok (map f xs)
all_ok-map g f xs each = ap all_ok (map_oks g f xs each) ∙ all_ok-oks (map f xs)

-- ---- an output that is no column

pub not_column : (e : Expr) → ((c : ℕ) → e ≡ code.Column c → ⊥) → is_column (expression_of e) ≡ false
not_column (code.Column c) other = absurd (other c refl)
not_column (code.Literal v kind) other = refl
not_column (code.Negate' p a) other = refl
not_column (code.Arithmetic' op p a q b) other = refl
not_column (code.Compare' op p a q b) other = refl
not_column (code.Not' p a) other = refl
not_column (code.And' p a q b) other = refl
not_column (code.Or' p a q b) other = refl
not_column (code.IsNull' p a) other = refl
not_column (code.IsNotNull' p a) other = refl
not_column (code.Case' branch p a q b r c) other = refl
