-- Names that differ, and tests over lists.
use Rattle.std.proofs.Common.{◌≡◌, sym, ℕ, List, Bool, true, false, refl}
use Rattle.std.proofs.lemmas.Slice.Eq.{bytes_eq-Decides}
use Rattle.std.specs.Str.{bytes_eq}

no_if : (b : Bool) → (b ≡ true → ⊥) → b ≡ false
no_if true h = absurd (h refl)
no_if false h = refl

pub other_bytes : (a b : List ℕ) → (b ≡ a → ⊥) → bytes_eq a b ≡ false
other_bytes a b ne = no_if (bytes_eq a b) (λ t. ne (sym ((bytes_eq-Decides a b).0 t)))
