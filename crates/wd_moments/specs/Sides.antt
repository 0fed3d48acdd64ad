-- An operand that counts a unit, with numbers of that unit in place of literals, and of numbers beside decimals.
use Rattle.std.specs.Prelude.{ℕ, zero, suc, ◌+◌, ◌&&◌, ◌||◌, ◌++◌, not, Bool, true, false, if◌then◌else◌, List, [], ◌∷◌, length, take, drop}
use Rattle.wd_lex.specs.declared.token.Terminal.TheVariants as m
use Rattle.wd_lex.specs.declared.token.Token.{Token}
use Rattle.wd_lex.specs.declared.token.TokenKind.{TokenKind}
use Rattle.wd_lex.specs.declared.token.TokenKind.TheVariants as t
use Rattle.wd_operands.specs.Nests.{nest_length}
use Rattle.wd_operands.specs.Operands.{is_over}
use Rattle.wd_units.specs.declared.token.Stop.TheVariants.{Link, Then}
use Rattle.wd_units.specs.declared.unit.Unit.{Unit as Counts}
use Rattle.wd_units.specs.declared.unit.Unit.TheVariants.{Decimal}
use Rattle.wd_amounts.specs.Terms.{Known, is_star, unit_of}
use Rattle.wd_units.specs.Tokens.{part_length}
use Rattle.wd_units.specs.Units.{counts_decimal}
use Rattle.wd_moments.specs.declared.decimal.Stand.{Stand}
use Rattle.wd_moments.specs.declared.decimal.Stand.TheVariants.{Term, Factor}
use Rattle.wd_moments.specs.Decimals.{beyond, first_in_units, stand_after}
use Rattle.wd_moments.specs.Literals.{Written, first_written}

-- ---- step by step

-- what is written, the place of the next token, and the tokens from there on
abbrev pub StepTo : Type 0 → Type 0
StepTo S = List Token × S × List Token

abbrev pub and_then : {S : Type 0} → StepTo S → (S → List Token → List Token) → List Token
and_then first more = first.0 ++ more first.1 first.2

-- the given number of steps, or as many as there are tokens for
unfoldable pub stepped : {S : Type 0} → (S → List Token → StepTo S) → ℕ → S → List Token → List Token
stepped step zero stand tokens = []
stepped step (suc turns) stand [] = []
stepped step (suc turns) stand (token ∷ tokens) = and_then (step stand (token ∷ tokens)) (stepped step turns)

-- ---- parts of an operand that are written on their own

abbrev pub is_when : TokenKind → Bool
is_when (t.Terminal m.When) = true
is_when _ = false

abbrev pub counts_units : Counts → Bool
counts_units (Decimal scale) = true
counts_units _ = false

abbrev pub begins_factor : Stand → Bool
begins_factor Term = true
begins_factor Factor = true
begins_factor _ = false

abbrev pub is_factor : Stand → Bool
is_factor Factor = true
is_factor _ = false

unfoldable pub begins_star : List Token → Bool
begins_star [] = false
begins_star (token ∷ tokens) = is_star token.kind

-- this number of tokens are a factor of a product, and count no decimal
abbrev pub is_multiplier : Known → Stand → ℕ → List Token → Bool
is_multiplier known stand length tokens = (is_factor stand || begins_star (drop length tokens)) && not (counts_decimal (unit_of known (take length tokens)))

abbrev pub multiplier_length : Known → Stand → List Token → ℕ
multiplier_length known stand tokens = if is_multiplier known stand (part_length Link tokens) tokens then part_length Link tokens else 0

-- How many tokens of an operand are written on their own from here on: WHEN and a condition, OVER and a window, or a factor by which a
-- decimal is multiplied.
unfoldable pub own_length : Known → Counts → Stand → List Token → ℕ
own_length known unit stand [] = 0
own_length known unit stand (token ∷ tokens) =
    if is_when token.kind then 1 + part_length Then tokens
    else (if is_over token.kind then 1 + nest_length tokens
    else (if counts_units unit && begins_factor stand then multiplier_length known stand (token ∷ tokens) else 0))

-- ---- sides

abbrev pub first_by : Counts → Stand → List Token → Written
first_by (Decimal scale) stand tokens = first_in_units scale stand tokens
first_by unit stand tokens = first_written unit tokens

abbrev pub one_by : Stand → Token → List Token → Written → StepTo Stand
one_by stand token tokens (written, true) = (written, beyond stand, drop 1 tokens)
one_by stand token tokens (written, false) = (written, stand_after stand token.kind, tokens)

unfoldable pub one_piece : Counts → Stand → List Token → StepTo Stand
one_piece unit stand [] = ([], stand, [])
one_piece unit stand (token ∷ tokens) = one_by stand token tokens (first_by unit stand (token ∷ tokens))

abbrev pub piece_by : (List Token → List Token) → ℕ → Counts → Stand → List Token → StepTo Stand
piece_by itself zero unit stand tokens = one_piece unit stand tokens
piece_by itself (suc n) unit stand tokens = (itself (take (suc n) tokens), beyond stand, drop (suc n) tokens)

-- a part that is written on its own, a literal, or a token
abbrev pub piece : (List Token → List Token) → Known → Counts → Stand → List Token → StepTo Stand
piece itself known unit stand tokens = piece_by itself (own_length known unit stand tokens) unit stand tokens

-- an operand that counts a unit, with numbers of that unit, by how parts are written on their own
abbrev pub side : (List Token → List Token) → Known → Counts → List Token → List Token
side itself known unit tokens = stepped (piece itself known unit) (length tokens) Term tokens
