-- Comparisons whose sides count one unit.
use Rattle.std.specs.Prelude.{◌&&◌, not, Bool, true, false, if◌then◌else◌, List, [], ◌∷◌, Option, Some, None, is_some}
use Rattle.wd_lex.specs.declared.token.Terminal.TheVariants as m
use Rattle.wd_lex.specs.declared.token.Token.{Token}
use Rattle.wd_lex.specs.declared.token.TokenKind.{TokenKind}
use Rattle.wd_lex.specs.declared.token.TokenKind.TheVariants as t
use Rattle.wd_operands.specs.Operands.{is_left_bracket, is_name}
use Rattle.wd_units.specs.declared.unit.Unit.{Unit as Counts}
use Rattle.wd_units.specs.declared.unit.Unit.TheVariants.{Days, Microseconds}
use Rattle.wd_units.specs.Units.{common_unit}
use Rattle.wd_units.specs.Amounts.{number_said}
use Rattle.wd_amounts.specs.Terms.{Known, unit_of}
use Rattle.wd_operands.specs.Parts.{operand_at}
use Rattle.wd_units.specs.Tokens.{◌>>=◌, is_comparison, is_right_bracket}

-- An operand is the whole left side of a comparison after an opening bracket, a comma, a word that begins a condition or a value,
-- and AND, OR and NOT.
abbrev pub begins_side : TokenKind → Bool
begins_side (t.Terminal m.LeftBracket) = true
begins_side (t.Terminal m.Comma) = true
begins_side (t.Terminal m.And) = true
begins_side (t.Terminal m.Or) = true
begins_side (t.Terminal m.Not) = true
begins_side (t.Terminal m.When) = true
begins_side (t.Terminal m.Then) = true
begins_side (t.Terminal m.Else) = true
begins_side (t.Terminal m.Where) = true
begins_side (t.Terminal m.On) = true
begins_side (t.Terminal m.Having) = true
begins_side (t.Terminal m.Select) = true
begins_side (t.Terminal m.Distinct) = true
begins_side (t.Terminal m.By) = true
begins_side _ = false

unfoldable pub closes : List Token → Bool
closes [] = true
closes (token ∷ tokens) = is_right_bracket token.kind && closes tokens

-- only a text, in brackets or not, that denotes an amount of that unit
unfoldable pub says : Counts → List Token → Bool
says unit [] = false
says unit (token ∷ tokens) = if is_left_bracket token.kind then says unit tokens else is_some (number_said unit token.kind) && closes tokens

-- the units of both sides
abbrev pub Sides : Type 0
Sides = Counts × Counts

abbrev pub both : Option Counts → Option Sides
both None = None
both (Some unit) = Some (unit, unit)

-- a date is compared with a moment as its midnight; otherwise both sides count the same unit
abbrev pub sides_of : Counts → Counts → Option Sides
sides_of Days Microseconds = Some (Days, Microseconds)
sides_of Microseconds Days = Some (Microseconds, Days)
sides_of first second = both (common_unit first second)

abbrev pub common : Option Counts → Option Counts → List Token → List Token → Option Sides
common (Some first) (Some second) left right = sides_of first second
common (Some first) None left right = if says first right then both (Some first) else None
common None (Some second) left right = if says second left then both (Some second) else None
common None None left right = None

-- a comparison: its left side, its sign, its right side, the unit of each side, and the tokens after it
pub record Comparison : Type 0 where
  pub left : List Token
  pub sign : Token
  pub right : List Token
  pub first : Counts
  pub second : Counts
  pub rest : List Token

unfoldable pub sign_at : List Token → Option (Token × List Token)
sign_at [] = None
sign_at (token ∷ tokens) = if is_comparison token.kind then Some (token, tokens) else None

-- no name follows that would continue the last operand
unfoldable pub is_done : List Token → Bool
is_done [] = true
is_done (token ∷ tokens) = not (is_name token.kind)

-- the comparison at the start, if it is known what its sides count and that they can be compared
unfoldable pub comparison_at : Known → List Token → Option Comparison
comparison_at known tokens =
    operand_at tokens >>= λ left. sign_at left.1 >>= λ sign. operand_at sign.1 >>= λ right.
    if is_done right.1 then (common (unit_of known left.0) (unit_of known right.0) left.0 right.0 >>= λ units. Some (record { left = left.0; sign = sign.0; right = right.0; first = units.0; second = units.1; rest = right.1 })) else None
