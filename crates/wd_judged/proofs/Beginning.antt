-- The lines with which blocks begin, one block after another.
use Rattle.std.proofs.Common.{ℕ, zero, suc, List, [], ◌∷◌, ◌++◌, length, slice_get, Option, Some, None, IfSome}
use Rattle.std.specs.Prelude.{⊤}

nothing : {A : Type 0} (o : Option A) → IfSome o (λ x. ⊤)
nothing None = tt
nothing (Some x) = tt

-- what holds of each two elements of one number holds with one more
abbrev pub Each : {A B : Type 0} → (A → B → Type 0) → List A → List B → ℕ → Type 0
Each P xs ys n = IfSome (slice_get xs n) (λ x. IfSome (slice_get ys n) (P x))

pub one_more : {A B : Type 0} (P : A → B → Type 0) (xs : List A) (ys : List B) (y : B) → ((n : ℕ) → Each P xs ys n) → IfSome (slice_get xs (length ys)) (λ x. P x y) → (n : ℕ) → Each P xs (ys ++ y ∷ []) n
one_more P [] ys y h new n = tt
one_more P (x ∷ xs) [] y h new zero = new
one_more P (x ∷ xs) [] y h new (suc n) = nothing (slice_get xs n)
one_more P (x ∷ xs) (z ∷ ys) y h new zero = h zero
one_more P (x ∷ xs) (z ∷ ys) y h new (suc n) = one_more P xs ys y (λ m. h (suc m)) new n
