-- The fields of a record, place by place.
use Rattle.std.proofs.Common.{◌≡◌, ℕ, zero, suc, List, [], ◌∷◌, get_or, Option, Some, None, refl, MatchOption}
use Rattle.csv.specs.Records.{field_at}

-- what `get` gives is the field at the place, and nothing past the last
pub field_at-is : (fields : List (List ℕ)) (i : ℕ) (o : Option (List ℕ)) → o ≡ field_at fields i → MatchOption o ([] ≡ get_or fields i []) (λ f. f ≡ get_or fields i [])
unfolding field_at
field_at-is [] i None e = refl
field_at-is [] i (Some f) e = absurd (cc e)
field_at-is (f ∷ fs) zero None e = absurd (cc e)
field_at-is (f ∷ fs) zero (Some g) e = cc e
field_at-is (f ∷ fs) (suc i) o e = field_at-is fs i o e
