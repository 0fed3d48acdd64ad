-- The name of a character, piece by piece.
use Rattle.std.proofs.Common.{◌≡◌, ℕ, List, [], ◌∷◌, ◌++◌, ap, codes, refl}

pub named_joined : (text : List ℕ) (a b c d : ℕ) → (((((text ++ codes "&#10214;U+") ++ a ∷ []) ++ b ∷ []) ++ c ∷ []) ++ d ∷ []) ++ codes "&#10215;" ≡ text ++ (codes "&#10214;U+" ++ a ∷ b ∷ c ∷ d ∷ codes "&#10215;")
named_joined [] a b c d = refl
named_joined (x ∷ text) a b c d = ap (λ l. x ∷ l) (named_joined text a b c d)
