-- Tokens written one after another.
use Rattle.std.proofs.Common.{◌≡◌, ◌++◌, List, [], ◌∷◌, append_assoc}
use Rattle.wd_lex.specs.declared.token.Token.{Token}

pub two_then : (old first second last zs : List Token) (x x1 y y1 : Token) → first ≡ old ++ x ∷ [] → x ≡ x1 → second ≡ first ++ y ∷ [] → y ≡ y1 → last ≡ second ++ zs → last ≡ old ++ (x1 ∷ y1 ∷ zs)
two_then old first second last zs x x1 y y1 a b c d e = rw (e, c, a, b, d) (simp append_assoc)

pub two_then_two : (old first second third last zs ws : List Token) (x x1 y y1 : Token) → first ≡ old ++ x ∷ [] → x ≡ x1 → second ≡ first ++ y ∷ [] → y ≡ y1 → third ≡ second ++ zs → last ≡ third ++ ws → last ≡ old ++ (x1 ∷ y1 ∷ (zs ++ ws))
two_then_two old first second third last zs ws x x1 y y1 a b c d e f = rw (f, e, c, a, b, d) (simp append_assoc)
