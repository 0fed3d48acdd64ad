-- What an operand counts.
use Rattle.std.specs.Prelude.{ℕ, zero, suc, ◌-◌, ◌==◌, ◌&&◌, ◌||◌, codes, nat_lt, Bool, true, false, if◌then◌else◌, List, [], ◌∷◌, length, take, drop, Option, Some, None}
use Rattle.std.specs.Str.{bytes_eq}
use Rattle.wd_lex.specs.declared.token.Terminal.TheVariants as m
use Rattle.wd_lex.specs.declared.token.Token.{Token}
use Rattle.wd_lex.specs.declared.token.TokenKind.{TokenKind}
use Rattle.wd_lex.specs.declared.token.TokenKind.TheVariants as t
use Rattle.wd_operands.specs.Nests.{nest_length}
use Rattle.wd_operands.specs.Operands.{is_name, is_over, is_sign}
use Rattle.wd_units.specs.declared.token.Stop.{Stop}
use Rattle.wd_units.specs.declared.token.Stop.TheVariants.{Sign, Factor, Comma, Branch}
use Rattle.wd_units.specs.declared.unit.Unit.{Unit as Counts}
use Rattle.wd_units.specs.declared.unit.Unit.TheVariants.{Days, Microseconds, Plain, Number}
use Rattle.wd_units.specs.Units.{as_value, number_alone, operation_unit, with_branch, with_default}
use Rattle.wd_units.specs.declared.amount.Amount.{Amount}
use Rattle.wd_units.specs.Amounts.{amount_at}
use Rattle.wd_units.specs.declared.numeral.Numeral.{Numeral}
use Rattle.wd_units.specs.Numerals.{numeral_at}
use Rattle.wd_operands.specs.Parts.{brackets_at}
use Rattle.wd_units.specs.Tokens.{◌>>=◌, holds_text, is_case, is_dot, is_end, or_else, part_length}

-- ---- names, numbers and literals

-- what a name counts, where that is known
abbrev pub Known : Type 0
Known = List ℕ → Option Counts

-- a number and NULL go with whatever stands beside them
abbrev pub token_unit : Known → TokenKind → Option Counts
token_unit known (t.Word name) = known name
token_unit known (t.Quoted name) = known name
token_unit known (t.Number number) = Some (Number 0)
token_unit known (t.Terminal m.Null) = Some (Number 0)
token_unit known _ = None

-- a name, of a table or not, or a number; nothing, before a sign, is as 0
unfoldable pub column_unit : Known → List Token → Option Counts
column_unit known [] = Some (Number 0)
column_unit known (only ∷ []) = token_unit known only.kind
column_unit known (table ∷ dot ∷ column ∷ []) = if is_name table.kind && is_dot dot.kind && is_name column.kind then token_unit known column.kind else None
column_unit known _ = None

abbrev pub unit_in : Option Amount → Option Counts
unit_in None = None
unit_in (Some x) = Some x.unit

abbrev pub places_in : Option Numeral → Option Counts
places_in None = None
places_in (Some x) = Some (Number x.places)

-- a literal of a moment, or a number with a point
unfoldable pub literal_unit : List Token → Option Counts
literal_unit tokens = if length tokens == 2 then or_else (unit_in (amount_at tokens)) (places_in (numeral_at tokens)) else None

-- ---- calls

-- calls of one of the values of their first argument
abbrev pub is_picked : TokenKind → Bool
is_picked (t.Word name) =
    bytes_eq name (codes "lag") || bytes_eq name (codes "lead") || bytes_eq name (codes "first_value") || bytes_eq name (codes "last_value") || bytes_eq name (codes "nth_value")
    || bytes_eq name (codes "min") || bytes_eq name (codes "max")
is_picked _ = false

-- calls that count rows
abbrev pub is_counted : TokenKind → Bool
is_counted (t.Word name) =
    bytes_eq name (codes "count") || bytes_eq name (codes "row_number") || bytes_eq name (codes "rank") || bytes_eq name (codes "dense_rank") || bytes_eq name (codes "ntile")
is_counted _ = false

-- a window's name, or what stands in brackets
unfoldable pub is_window : List Token → Bool
is_window [] = false
is_window (first ∷ []) = is_name first.kind
is_window (first ∷ second ∷ tokens) = nest_length (first ∷ second ∷ tokens) == length (first ∷ second ∷ tokens)

-- nothing, or OVER and a window
unfoldable pub ends_call : List Token → Bool
ends_call [] = true
ends_call (token ∷ tokens) = is_over token.kind && is_window tokens

-- the arguments of a call, after its name
unfoldable pub arguments_of : List Token → Option (List Token)
arguments_of tokens = brackets_at tokens >>= λ call. if ends_call call.1 then Some call.0 else None

-- the first argument, where no text stands in the others
unfoldable pub first_argument : List Token → Option (List Token)
first_argument tokens = arguments_of tokens >>= λ arguments. if holds_text (drop (part_length Comma arguments) arguments) then None else Some (take (part_length Comma arguments) arguments)

unfoldable pub count_unit : List Token → Option Counts
count_unit [] = None
count_unit (token ∷ tokens) =
    if is_counted token.kind then (arguments_of tokens >>= λ arguments. if holds_text arguments then None else Some Plain) else None

unfoldable pub picked_argument : List Token → Option (List Token)
picked_argument [] = None
picked_argument (token ∷ tokens) = if is_picked token.kind then first_argument tokens else None

-- the argument of SUM
abbrev pub is_sum : TokenKind → Bool
is_sum (t.Word name) = bytes_eq name (codes "sum")
is_sum _ = false

unfoldable pub summed_argument : List Token → Option (List Token)
summed_argument [] = None
summed_argument (token ∷ tokens) = if is_sum token.kind then first_argument tokens else None

-- the tokens after the first comma
unfoldable pub past_comma : List Token → List Token
past_comma tokens = drop 1 (drop (part_length Comma tokens) tokens)

abbrev pub third_in : Option (List Token) → List Token
third_in None = []
third_in (Some arguments) = let others = past_comma (past_comma arguments) in take (part_length Comma others) others

-- the third argument of a call, and nothing where it has none
unfoldable pub default_of : List Token → List Token
default_of [] = []
default_of (token ∷ tokens) = third_in (arguments_of tokens)

-- ---- casts

-- the microseconds of a day
abbrev pub is_day : TokenKind → Bool
is_day (t.Number number) = number == 86400000000
is_day _ = false

abbrev pub is_slash : TokenKind → Bool
is_slash (t.Terminal m.Slash) = true
is_slash _ = false

abbrev pub is_star : TokenKind → Bool
is_star (t.Terminal m.Star) = true
is_star _ = false

unfoldable pub begins_case : List Token → Bool
begins_case [] = false
begins_case (token ∷ tokens) = is_case token.kind

-- `/ 86400000000 END`, the end of a moment's day; `x * 86400000000`, the end of a day's first moment
unfoldable pub ended_unit : List Token → Option Counts
ended_unit (first ∷ second ∷ third ∷ []) =
    if is_slash first.kind && is_day second.kind && is_end third.kind then Some Days
    else (if is_star second.kind && is_day third.kind then Some Microseconds else None)
ended_unit _ = None

abbrev pub by_end : Bool → Option Counts → Option Counts
by_end true (Some Days) = Some Days
by_end false (Some Microseconds) = Some Microseconds
by_end _ _ = None

-- the day of a moment and the first moment of a day, as casts are written
unfoldable pub cast_unit : List Token → Option Counts
cast_unit tokens = by_end (begins_case tokens) (ended_unit (drop (length tokens - 3) tokens))

-- ---- chains

-- what comes of what is known so far, an operator and the part after it
abbrev pub Join : Type 0
Join = TokenKind → Option Counts → Option Counts → Option Counts

-- parts of which so much is known, with an operator before each that is still to come; the number bounds the turns
unfoldable pub chain_from : Stop → Join → (List Token → Option Counts) → ℕ → Option Counts → List Token → Option Counts
chain_from stop join part zero unit tokens = unit
chain_from stop join part (suc turns) unit [] = unit
chain_from stop join part (suc turns) unit (operator ∷ tokens) =
    chain_from stop join part turns (join operator.kind unit (part (take (part_length stop tokens) tokens))) (drop (part_length stop tokens) tokens)

-- parts with such operators between them: the count of the tokens is always enough
abbrev pub chain_of : Stop → Join → (List Token → Option Counts) → List Token → Option Counts
chain_of stop join part tokens = chain_from stop join part (length tokens) (part (take (part_length stop tokens) tokens)) (drop (part_length stop tokens) tokens)

-- what stands between CASE and its END, and nothing after them
unfoldable pub case_contents : List Token → Option (List Token)
case_contents tokens =
    if begins_case tokens && nest_length tokens == length tokens && nat_lt 1 (length tokens) then Some (take (length tokens - 2) (drop 1 tokens)) else None

-- what stands in brackets, and nothing after them
unfoldable pub bracket_contents : List Token → Option (List Token)
bracket_contents tokens = brackets_at tokens >>= λ nest. if length nest.1 == 0 then Some nest.0 else None

-- the smaller operand that counts what this one does
unfoldable pub inner_operand : List Token → Option (List Token)
inner_operand tokens = or_else (bracket_contents tokens) (picked_argument tokens)

unfoldable pub plain_unit : Known → List Token → Option Counts
plain_unit known tokens = or_else (or_else (column_unit known tokens) (literal_unit tokens)) (or_else (count_unit tokens) (cast_unit tokens))

-- a factor without its sign
unfoldable pub past_sign : List Token → List Token
past_sign [] = []
past_sign (token ∷ tokens) = if is_sign token.kind then tokens else token ∷ tokens

-- a name or a number, or else what counts ones or a decimal
unfoldable pub factor_unit : (List Token → Option Counts) → Known → List Token → Option Counts
factor_unit inner known tokens = if length (past_sign tokens) == 0 then None else or_else (column_unit known (past_sign tokens)) (number_alone (as_value (inner tokens)))

-- factors with what stands between factors between them, two at least
unfoldable pub multiple_unit : (List Token → Option Counts) → Known → List Token → Option Counts
multiple_unit inner known tokens = if part_length Factor tokens == length tokens then None else chain_of Factor operation_unit (factor_unit inner known) tokens

-- the values of a CASE: what all its branches share
unfoldable pub case_unit : (List Token → Option Counts) → List Token → Option Counts
case_unit inner tokens = case_contents tokens >>= chain_of Branch with_branch inner

-- the sum of numbers
abbrev pub summed_unit : (List Token → Option Counts) → List Token → Option Counts
summed_unit inner tokens = summed_argument tokens >>= λ argument. number_alone (as_value (inner argument))

-- a CASE, a sum of numbers, or a product
unfoldable pub scaled_unit : (List Token → Option Counts) → Known → List Token → Option Counts
scaled_unit inner known tokens = or_else (or_else (case_unit inner tokens) (summed_unit inner tokens)) (multiple_unit inner known tokens)

abbrev pub term_by : (List Token → Option Counts) → Known → List Token → Option (List Token) → Option Counts
term_by inner known tokens (Some inside) = with_default (inner inside) (inner (default_of tokens))
term_by inner known tokens None = or_else (plain_unit known tokens) (scaled_unit inner known tokens)

-- what no sum is
unfoldable pub term_unit : (List Token → Option Counts) → Known → List Token → Option Counts
term_unit inner known tokens = term_by inner known tokens (inner_operand tokens)

-- what an operand counts, looked for in so many brackets
unfoldable pub unit_within : Known → ℕ → List Token → Option Counts
unit_within known zero tokens = None
unit_within known (suc depth) tokens = chain_of Sign operation_unit (term_unit (unit_within known depth) known) tokens

-- brackets are followed to 64 levels
abbrev pub unit_of : Known → List Token → Option Counts
unit_of known tokens = unit_within known 65 tokens
