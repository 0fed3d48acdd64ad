-- A query in the characters of the profile's lexer: outside of quotes and comments each `::` appears as `%%`, and the point in a
-- number, between two digits, as a blank. All other bytes stay, each at its place. There is no masked query for a text in which a `%%`,
-- or two numbers side by side, could mean something else, nor for a text with E'..', for which the profile's lexer reads another end
-- than PostgreSQL.
use Rattle.std.specs.Prelude.{ℕ, ◌==◌, ◌||◌, ◌&&◌, not, Bool, true, false, if◌then◌else◌, List, [], ◌∷◌, slice_index, Option, Some, None}
use Rattle.wd_lex.specs.Characters.{is_blank, is_digit}
use Rattle.wd_dialect_text.specs.declared.mask.State.{State}
use Rattle.wd_dialect_text.specs.declared.mask.State.TheVariants as s
use Rattle.wd_dialect_text.specs.Masked.{step}

-- the codes of `:` and `%`
abbrev pub colon : ℕ
colon = 58

abbrev pub percent : ℕ
percent = 37

-- the codes of `.` and of a blank
abbrev pub point : ℕ
point = 46

abbrev pub blank : ℕ
blank = 32

-- whether a sign in this state is outside of quotes and comments
abbrev pub is_outside : State → Bool
is_outside s.Between = true
is_outside s.Word = true
is_outside s.Number = true
is_outside _ = false

-- whether a byte in this state is the quote of a text E'..'
abbrev pub is_prefix : State → Bool
is_prefix s.Prefix = true
is_prefix _ = false

-- whether a byte in this state comes right after a digit of a number, or after a point after its digits
abbrev pub is_numeric : State → Bool
is_numeric s.Number = true
is_numeric _ = false

-- whether two bytes are percent signs, or one a percent sign and the other a colon
abbrev pub is_doubtful : ℕ → ℕ → Bool
is_doubtful b next = (b == percent && (next == percent || next == colon)) || (b == colon && next == percent)

-- whether a byte is white space between a number and a digit
abbrev pub splits_number : State → ℕ → ℕ → Bool
splits_number state b next = is_numeric state && is_blank b && is_digit next

-- whether a byte is a point between a number and a digit
abbrev pub is_point : State → ℕ → ℕ → Bool
is_point state b next = is_numeric state && b == point && is_digit next

-- whether none of these is in the bytes, of which the first is in this state
unfoldable pub is_plain : State → List ℕ → Bool
is_plain state [] = true
is_plain state (b ∷ bytes) =
    not (is_prefix state) && not (is_outside state && is_doubtful b (slice_index bytes 0)) && not (splits_number state b (slice_index bytes 0))
    && is_plain (step state b (slice_index bytes 0)).1 bytes

-- the byte that replaces a byte, and whether the next byte is the second of `::`
abbrev pub byte_for : Bool → State → ℕ → ℕ → ℕ × Bool
byte_for true state b next = (percent, false)
byte_for false state b next =
    if is_outside state && b == colon && next == colon then (percent, true) else (if is_point state b next then (blank, false) else (b, false))

-- bytes as they are masked, of which the first is in this state
unfoldable pub masked_from : Bool → State → List ℕ → List ℕ
masked_from is_second state [] = []
masked_from is_second state (b ∷ bytes) =
    let found = byte_for is_second state b (slice_index bytes 0) in found.0 ∷ masked_from found.1 (step state b (slice_index bytes 0)).1 bytes

unfoldable pub masked : List ℕ → Option (List ℕ)
masked text = if is_plain s.Between text then Some (masked_from false s.Between text) else None
