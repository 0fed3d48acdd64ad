-- Operands outside of comparisons that count a moment or a decimal: items of a select list, keys and their frames, and arguments.
use Rattle.std.specs.Prelude.{ℕ, ◌+◌, ◌||◌, ◌&&◌, not, codes, is_some, Bool, true, false, if◌then◌else◌, List, [], ◌∷◌, length, take, drop, Option, Some, None}
use Rattle.std.specs.Str.{bytes_eq}
use Rattle.wd_lex.specs.declared.token.Terminal.TheVariants as m
use Rattle.wd_lex.specs.declared.token.Token.{Token}
use Rattle.wd_lex.specs.declared.token.TokenKind.{TokenKind}
use Rattle.wd_lex.specs.declared.token.TokenKind.TheVariants as t
use Rattle.wd_units.specs.declared.unit.Unit.{Unit as Counts}
use Rattle.wd_units.specs.declared.unit.Unit.TheVariants.{Days, Microseconds, Decimal}
use Rattle.wd_units.specs.Amounts.{amount_at}
use Rattle.wd_units.specs.Numerals.{numeral_at}
use Rattle.wd_amounts.specs.Terms.{Known, unit_of}
use Rattle.wd_units.specs.declared.token.Stop.TheVariants.{Frame}
use Rattle.wd_operands.specs.Parts.{operand_at}
use Rattle.wd_units.specs.Tokens.{◌>>=◌, begins_item, is_comparison, part_length}
use Rattle.wd_moments.specs.declared.item.Start.{Start}
use Rattle.wd_moments.specs.declared.item.Start.TheVariants.{Elsewhere, AtSide, AtItem}
use Rattle.wd_clashes.specs.Comparisons.{begins_side}

-- what may begin after a token: an item, which may also be the left side of a comparison, or such a side alone
abbrev pub start_after : TokenKind → Start
start_after kind = if begins_item kind then AtItem else (if begins_side kind then AtSide else Elsewhere)

abbrev pub is_item : Start → Bool
is_item AtItem = true
is_item _ = false

abbrev pub is_side : Start → Bool
is_side Elsewhere = false
is_side _ = true

-- the word of a field, which shortens an interval before it
abbrev pub is_field : TokenKind → Bool
is_field (t.Word text) =
    bytes_eq text (codes "year") || bytes_eq text (codes "month") || bytes_eq text (codes "day") || bytes_eq text (codes "hour") || bytes_eq text (codes "minute") || bytes_eq text (codes "second")
is_field _ = false

-- neither the sign of a comparison nor a field follows
unfoldable pub ends_item : List Token → Bool
ends_item [] = true
ends_item (token ∷ tokens) = not (is_comparison token.kind) && not (is_field token.kind)

-- a literal of a moment or a span is among tokens
unfoldable pub holds_amount : List Token → Bool
holds_amount [] = false
holds_amount (token ∷ tokens) = is_some (amount_at (token ∷ tokens)) || holds_amount tokens

abbrev pub is_number : TokenKind → Bool
is_number (t.Number number) = true
is_number _ = false

-- a number is among tokens, with a point or not
unfoldable pub holds_number : List Token → Bool
holds_number [] = false
holds_number (token ∷ tokens) = is_number token.kind || is_some (numeral_at (token ∷ tokens)) || holds_number tokens

-- an operand that counts this unit has literals to be written in the unit
abbrev pub is_written : Counts → List Token → Bool
is_written Days tokens = holds_amount tokens
is_written Microseconds tokens = holds_amount tokens
is_written (Decimal scale) tokens = holds_number tokens
is_written _ tokens = false

abbrev pub is_range : TokenKind → Bool
is_range (t.Terminal m.Range) = true
is_range _ = false

unfoldable pub holds_range : List Token → Bool
holds_range [] = false
holds_range (token ∷ tokens) = is_range token.kind || holds_range tokens

-- how many tokens after a key are its frame, if that is in RANGE, so that the frame's offsets count what the key does
unfoldable pub frame_length : List Token → ℕ
frame_length tokens = if holds_range (take (part_length Frame tokens) tokens) then part_length Frame tokens else 0

-- an operand, perhaps with a frame after it, what it counts, and the tokens after it
pub record Item : Type 0 where
  pub operand : List Token
  pub unit : Counts
  pub rest : List Token

abbrev pub item_of : List Token → List Token → Option Counts → Option Item
item_of operand rest None = None
item_of operand rest (Some unit) = if ends_item rest && is_written unit operand then Some (record { operand = operand; unit = unit; rest = rest }) else None

abbrev pub item_by : Option Counts → List Token → ℕ → Option Item
item_by unit tokens length = item_of (take length tokens) (drop length tokens) unit

-- the operand at the start and its frame, if it counts a moment or a decimal, and literals or numbers are in them
unfoldable pub item_at : Known → List Token → Option Item
item_at known tokens = operand_at tokens >>= λ found. item_by (unit_of known found.0) tokens (length found.0 + frame_length found.1)
