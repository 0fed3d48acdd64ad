-- The numbers of the pairs that are met.
use Rattle.std.specs.Prelude.{◌≡◌, ℕ, ◌<◌, Bool, ◌&&◌, List, length, get_or, nat_eq, Option, Some}
use Rattle.std.specs.HashMap.{HashMap, get_by, hash_map_len}

-- whether two pairs are equal
abbrev pub same_pair : ℕ × ℕ → ℕ × ℕ → Bool
same_pair a b = nat_eq a.0 b.0 && nat_eq a.1 b.1

-- the number of a pair, if it is met
abbrev pub number_in : {S : Type 0} → HashMap (ℕ × ℕ) ℕ S → ℕ × ℕ → Option ℕ
number_in met pair = get_by (same_pair pair) met

-- the numbers are below the count of the pairs, and no two pairs have one number
pub record AreApart {S : Type 0} (met : HashMap (ℕ × ℕ) ℕ S) : Type 0 where
  pub below : (p : ℕ × ℕ) (n : ℕ) → number_in met p ≡ Some n → n < hash_map_len met
  pub apart : (p q : ℕ × ℕ) (n : ℕ) → number_in met p ≡ Some n → number_in met q ≡ Some n → p ≡ q

-- a pair keeps the number that it has
abbrev pub Keeps : {S : Type 0} → HashMap (ℕ × ℕ) ℕ S → HashMap (ℕ × ℕ) ℕ S → Type 0
Keeps old new = (p : ℕ × ℕ) (n : ℕ) → number_in old p ≡ Some n → number_in new p ≡ Some n

-- a number for each place of two lists, below a bound; two numbers are equal exactly where the pairs there are
pub record ArePairNumbers (first second : List ℕ) (bound : ℕ) (numbers : List ℕ) : Type 0 where
  pub long : length numbers ≡ length first
  pub below : (k : ℕ) → k < length first → get_or numbers k 0 < bound
  pub alike : (i j : ℕ) → i < length first → j < length first → nat_eq (get_or numbers i 0) (get_or numbers j 0) ≡ (nat_eq (get_or first i 0) (get_or first j 0) && nat_eq (get_or second i 0) (get_or second j 0))
