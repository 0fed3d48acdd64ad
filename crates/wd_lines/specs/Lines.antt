-- What is added to the lines of a block.
use Rattle.std.specs.Prelude.{◌≡◌, ℕ, ◌≤◌, min, Bool, true, false, not, ◌||◌, ◌&&◌, nat_lt, nat_le, nat_eq, List, [], ◌∷◌, ◌++◌, length, flat_map, codes, chars, encode_utf8, if◌then◌else◌}
use Rattle.std.specs.Char.{is_whitespace}
use Rattle.std.specs.Fmt.{decimal}
use Rattle.wd_source.specs.declared.place.Position.{Position}
use Rattle.wd_source.specs.Places.{IsPosition}

-- the characters from one to another
abbrev pub is_within : ℕ → ℕ → ℕ → Bool
is_within first last c = nat_le first c && nat_le c last

-- neither a control character nor one that ends a line or turns the direction of what follows (Unicode, UAX 9)
abbrev pub is_shown : ℕ → Bool
is_shown c = not (nat_lt c 32 || is_within 127 159 c || nat_eq c 0x61C || is_within 0x200E 0x200F c || is_within 0x2028 0x202E c || is_within 0x2066 0x2069 c)

-- a character that is shown, and a blank in place of any other
abbrev pub plain_char : ℕ → List ℕ
plain_char c = if is_shown c then encode_utf8 c else codes " "

abbrev pub plain : List ℕ → List ℕ
plain text = flat_map plain_char (chars text)

-- characters with one blank in place of each run of white space between others, and none after the last; `is_begun` says whether
-- characters come before these, `is_apart` whether white space comes between
abbrev pub joined_from : (is_begun is_apart : Bool) → List ℕ → List ℕ
joined_from is_begun is_apart [] = []
joined_from is_begun is_apart (c ∷ cs) =
    if is_whitespace c
    then joined_from is_begun is_begun cs
    else (if is_apart then codes " " else []) ++ plain_char c ++ joined_from true false cs

abbrev pub joined : List ℕ → List ℕ
joined text = joined_from false false (chars text)

abbrev pub position_words : Position → List ℕ
position_words position = codes ":" ++ decimal position.line ++ codes ":" ++ decimal position.column ++ codes ": "

-- a text followed by a path and the place of a byte; a byte past the end of the path's text counts as its end
abbrev pub HasPlace : (path text : List ℕ) (byte : ℕ) (old new : List ℕ) → Type 0
HasPlace path text byte old new =
    (position : Position) × IsPosition text (min byte (length text)) position × (new ≡ old ++ plain path ++ position_words position)

abbrev pub remark_line : List ℕ → List ℕ
remark_line remark = codes "      = " ++ remark ++ 10 ∷ []

-- a line about a path, and an empty line after it
abbrev pub remark_on : (path remark : List ℕ) → List ℕ
remark_on path remark = plain path ++ codes ": " ++ remark ++ 10 ∷ 10 ∷ []
