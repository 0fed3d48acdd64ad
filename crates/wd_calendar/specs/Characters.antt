-- Numbers and marks at the start of a text.
use Rattle.std.specs.Prelude.{ℕ, ◌+◌, ◌-◌, ◌*◌, ◌==◌, ◌&&◌, nat_lt, if◌then◌else◌, List, [], ◌∷◌, length, take, drop, Option, Some, None}
use Rattle.std.specs.Char.{is_ascii_digit}

infixl 10 ◌>>=◌
abbrev pub ◌>>=◌ : {A B : Type 0} → Option A → (A → Option B) → Option B
None >>= f = None
(Some x) >>= f = f x

-- the number that digits write after a number; none where another character is among them, or where there are ten of them, not counting
-- zeros at the start
unfoldable pub number_after : ℕ → List ℕ → Option ℕ
number_after so_far [] = Some so_far
number_after so_far (b ∷ text) = if is_ascii_digit b && nat_lt so_far 100000000 then number_after (so_far * 10 + (b - 48)) text else None

-- the number that digits write
abbrev pub number_of : List ℕ → Option ℕ
number_of text = number_after 0 text

-- a number of exactly `count` digits, and the text after them
unfoldable pub number_at : ℕ → List ℕ → Option (ℕ × List ℕ)
number_at count text = if nat_lt (length text) count then None else number_of (take count text) >>= λ number. Some (number, drop count text)

-- the text after a character, if the text begins with it
unfoldable pub past : ℕ → List ℕ → Option (List ℕ)
past character [] = None
past character (b ∷ text) = if b == character then Some text else None

-- how many digits the text begins with, counted on from `count`
unfoldable pub digits_from : ℕ → List ℕ → ℕ
digits_from count [] = count
digits_from count (b ∷ text) = if is_ascii_digit b then digits_from (count + 1) text else count
