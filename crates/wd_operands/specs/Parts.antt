-- What tokens begin with, and the tokens after it.
use Rattle.std.specs.Prelude.{◌-◌, ◌==◌, nat_lt, if◌then◌else◌, List, [], ◌∷◌, take, drop, Option, Some, None}
use Rattle.wd_lex.specs.declared.token.Token.{Token}
use Rattle.wd_operands.specs.Nests.{nest_length}
use Rattle.wd_operands.specs.Operands.{is_left_bracket, operand_length}

abbrev pub AndRest : Type 0
AndRest = List Token × List Token

-- the operand at the start
unfoldable pub operand_at : List Token → Option AndRest
operand_at tokens = if operand_length tokens == 0 then None else Some (take (operand_length tokens) tokens, drop (operand_length tokens) tokens)

-- what is between the brackets at the start, or between CASE and END
unfoldable pub nest_at : List Token → Option AndRest
nest_at tokens =
    if nat_lt (nest_length tokens) 2 then None else Some (drop 1 (take (nest_length tokens - 1) (take (nest_length tokens) tokens)), drop (nest_length tokens) tokens)

-- what is between the round brackets at the start
unfoldable pub brackets_at : List Token → Option AndRest
brackets_at [] = None
brackets_at (token ∷ tokens) = if is_left_bracket token.kind then nest_at (token ∷ tokens) else None
