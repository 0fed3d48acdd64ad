-- Texts as they appear in HTML.
use Rattle.std.specs.Prelude.{◌≡◌, ◌≢◌, ◌⊎◌, ℕ, ◌+◌, ◌/◌, ◌%◌, ◌≤◌, Bool, ◌||◌, ◌&&◌, nat_lt, nat_le, nat_eq, not, All, List, [], ◌∷◌, ◌++◌, flat_map, codes, chars, encode_utf8, if◌then◌else◌}
use Rattle.std.specs.Str.Lossy.{utf8_lossy}

-- the characters of a range, both ends included
abbrev pub is_within : ℕ → ℕ → ℕ → Bool
is_within first last c = nat_le first c && nat_le c last

-- control characters other than tabs, line feeds and returns
abbrev pub is_control : ℕ → Bool
is_control c = (nat_lt c 32 && not (nat_eq c 9) && not (nat_eq c 10) && not (nat_eq c 13)) || is_within 0x7F 0x9F c

-- marks that change the direction of a text, or that are invisible (Unicode, UAX 9 and the property Default_Ignorable_Code_Point), except
-- the joiners U+200C and U+200D, which spelling needs
abbrev pub is_unseen : ℕ → Bool
is_unseen c = nat_eq c 0xAD || nat_eq c 0x61C || nat_eq c 0x180E || nat_eq c 0x200B || is_within 0x200E 0x200F c || is_within 0x2028 0x202E c || is_within 0x2060 0x206F c || nat_eq c 0xFEFF || is_within 0xFFF9 0xFFFB c

abbrev pub hex_digit : ℕ → ℕ
hex_digit d = if nat_lt d 10 then 48 + d else 55 + d

-- the name of a character by its Unicode number, between ⟦ and ⟧
abbrev pub named : ℕ → List ℕ
named c = codes "&#10214;U+" ++ hex_digit (c / 4096 % 16) ∷ hex_digit (c / 256 % 16) ∷ hex_digit (c / 16 % 16) ∷ hex_digit (c % 16) ∷ codes "&#10215;"

-- a character, or its name where it is invisible
abbrev pub seen : ℕ → List ℕ
seen c = if is_control c || is_unseen c then named c else encode_utf8 c

-- A character in a text: & < > " and ' are written as references (HTML, character references), and a return, which HTML would take for
-- the end of a line, as a blank.
abbrev pub escaped_char : ℕ → List ℕ
escaped_char c = if nat_eq c 38 then codes "&amp;" else if nat_eq c 60 then codes "&lt;" else if nat_eq c 62 then codes "&gt;" else if nat_eq c 34 then codes "&quot;" else if nat_eq c 39 then codes "&#39;" else if nat_eq c 13 then codes " " else seen c

abbrev pub escaped_chars : List ℕ → List ℕ
escaped_chars text = flat_map escaped_char (chars text)

-- A text, character by character. Bytes that are not UTF-8 become U+FFFD.
abbrev pub escaped : List ℕ → List ℕ
escaped text = escaped_chars (utf8_lossy text)

-- a byte that neither begins nor ends a tag or the value of an attribute, and that is no control character other than a tab or a line
-- feed
pub record IsPlainByte (b : ℕ) : Type 0 where
  pub no_less : b ≢ 60
  pub no_greater : b ≢ 62
  pub no_quote : b ≢ 34
  pub no_apostrophe : b ≢ 39
  pub no_delete : b ≢ 127
  pub no_control : (32 ≤ b) ⊎ ((b ≡ 9) ⊎ (b ≡ 10))

-- an escaped text has only such bytes
abbrev pub EscapedIsPlain : Type 0
EscapedIsPlain = (text : List ℕ) → All IsPlainByte (escaped text)
