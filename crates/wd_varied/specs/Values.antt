-- Values near a literal, a few small values, and different values of a type.
use Rattle.std.specs.Prelude.{ℕ, ◌+◌, ◌-◌, ◌/◌, ◌%◌, List, [], ◌∷◌, ◌++◌, ℤ, pos, ◌+ℤ◌, ◌-ℤ◌, nat_eq, nat_lt, if◌then◌else◌, true, false}
use Rattle.wd_value.specs.declared.value.Value.{Value}
use Rattle.wd_value.specs.declared.value.Value.TheVariants.{Null, Int, Text, Bool as Truth}
use Rattle.wd_value.specs.declared.value.ColumnType.{ColumnType}
use Rattle.wd_value.specs.declared.value.ColumnType.TheVariants as type
use Rattle.wd_plan.specs.Expressions.{fits_64}

-- some values, or others where there are none
abbrev pub or_else : List Value → List Value → List Value
or_else [] others = others
or_else (v ∷ vs) others = v ∷ vs

-- ---- near a literal

-- a number, if 64 bits hold it
abbrev pub held : ℤ → List Value
held n = if fits_64 n then Int n ∷ [] else []

-- the number, the next one, twice the number, and the one before
abbrev pub numbers_near : ℤ → List Value
numbers_near n = ((held n ++ held (n +ℤ pos 1)) ++ held ((n +ℤ n) +ℤ pos 2)) ++ held (n -ℤ pos 1)

-- the text, the text followed by 'a', and '0'
abbrev pub texts_near : List ℕ → List Value
texts_near bytes = Text bytes ∷ Text (bytes ++ 97 ∷ []) ∷ Text (48 ∷ []) ∷ []

-- the values that a comparison distinguishes from a literal, or from a difference of values
abbrev pub near : Value → List Value
near Null = []
near (Int n) = numbers_near n
near (Text bytes) = texts_near bytes
near (Truth b) = []

-- two values of each type: 1 and 2, 'a' and 'b', false and true
abbrev pub small : List Value
small = Int (pos 1) ∷ Int (pos 2) ∷ Text (97 ∷ []) ∷ Text (98 ∷ []) ∷ Truth false ∷ Truth true ∷ []

-- ---- different values

-- 'a' to 'h', then 'aa' to 'hh'
abbrev pub letter : ℕ → List ℕ
letter i = (97 + i % 8) ∷ []

abbrev pub word : ℕ → List ℕ
word i = if nat_lt i 8 then letter i else letter (i / 8 - 1) ++ letter i

-- the values of a type, counted from 0: the whole numbers from 1, the words, false and true in turn
abbrev pub apart : ColumnType → ℕ → Value
apart type.SmallInt i = Int (pos (i + 1))
apart type.Integer i = Int (pos (i + 1))
apart type.BigInt i = Int (pos (i + 1))
apart type.Text i = Text (word i)
apart type.Boolean i = Truth (nat_eq (i % 2) 1)

-- the values of a type from a value on: a whole number and those after it, as far as 64 bits hold them; a text, and then the text
-- followed by a word; otherwise the values of the type
abbrev pub apart_from : Value → ColumnType → ℕ → Value
apart_from Null kind i = apart kind i
apart_from (Int n) kind i = if fits_64 (n +ℤ pos i) then Int (n +ℤ pos i) else apart kind i
apart_from (Text bytes) kind i = if nat_eq i 0 then Text bytes else Text (bytes ++ word (i - 1))
apart_from (Truth b) kind i = apart kind i
