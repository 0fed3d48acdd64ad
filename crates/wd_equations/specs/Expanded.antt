-- Tokens with the standard's equations applied: each test, call or CASE that has an equation is replaced by what the standard defines
-- it to be, with each part expanded.
use Rattle.std.specs.Prelude.{ℕ, zero, suc, ◌++◌, nat_lt, if◌then◌else◌, List, [], ◌∷◌, length, slice_index_or, Option, Some, None}
use Rattle.wd_lex.specs.declared.token.Terminal.{Terminal}
use Rattle.wd_lex.specs.declared.token.Terminal.TheVariants as m
use Rattle.wd_lex.specs.declared.token.Span.{Span}
use Rattle.wd_lex.specs.declared.token.Token.{Token}
use Rattle.wd_lex.specs.declared.token.TokenKind.TheVariants as t
use Rattle.wd_equations.specs.declared.equation.Piece.{Piece}
use Rattle.wd_equations.specs.declared.equation.Piece.TheVariants.{Mark, One, Operand, Clause}
use Rattle.wd_equations.specs.declared.found.Before.{Before}
use Rattle.wd_equations.specs.declared.found.Before.TheVariants.{Open, Inside}
use Rattle.wd_equations.specs.Equations.{equation, stated}
use Rattle.wd_equations.specs.Places.{Place, after}
use Rattle.wd_equations.specs.Tests.{test_at}
use Rattle.wd_equations.specs.Calls.{call_at}

-- ---- what is written

-- a token that an equation adds has the place of the word that the equation is about
abbrev pub made : Terminal → Span → Token
made x at = record { kind = t.Terminal x; span = at }

-- the part with this number, expanded
abbrev pub part_tokens : (List Token → List Token) → List (List Token) → ℕ → List Token
part_tokens inner parts index = if nat_lt index (length parts) then inner (slice_index_or parts index []) else []

-- the tokens of a piece
abbrev pub piece_tokens : (List Token → List Token) → Span → List (List Token) → Piece → List Token
piece_tokens inner at parts (Mark x) = made x at ∷ []
piece_tokens inner at parts One = record { kind = t.Number 1; span = at } ∷ []
piece_tokens inner at parts (Operand index) = (made m.LeftBracket at ∷ []) ++ part_tokens inner parts index ++ made m.RightBracket at ∷ []
piece_tokens inner at parts (Clause index) = part_tokens inner parts index

unfoldable pub pieces_tokens : (List Token → List Token) → Span → List (List Token) → List Piece → List Token
pieces_tokens inner at parts [] = []
pieces_tokens inner at parts (piece ∷ pieces) = piece_tokens inner at parts piece ++ pieces_tokens inner at parts pieces

-- what is written where an equation applies
unfoldable pub written : (List Token → List Token) → Place → List Token
written inner place = pieces_tokens inner place.at place.parts (stated place.is_not (equation place.form (length place.parts)))

-- ---- from left to right

-- the equation that applies at a place; a test comes first, since its left side may begin with a call
abbrev pub or_else : Option Place → Option Place → Option Place
or_else (Some place) other = Some place
or_else None other = other

unfoldable pub place_at : Before → List Token → Option Place
place_at before tokens = or_else (test_at before tokens) (call_at tokens)

-- what is written, what is known of the place after it, and the tokens from there on
abbrev pub Step : Type 0
Step = List Token × Before × List Token

-- the right side of the equation that applies here, or else the token itself
abbrev pub step_by : (List Token → List Token) → Before → List Token → Option Place → Step
step_by inner before tokens (Some place) = (written inner place, Inside, place.rest)
step_by inner before [] None = ([], before, [])
step_by inner before (token ∷ tokens) None = (token ∷ [], after before token.kind, tokens)

unfoldable pub step : (List Token → List Token) → Before → List Token → Step
step inner before tokens = step_by inner before tokens (place_at before tokens)

abbrev pub and_then : Step → (Before → List Token → List Token) → List Token
and_then first more = first.0 ++ more first.1 first.2

-- step by step to the end; the number bounds the steps. The count of the tokens is enough, since each step takes at least one token,
-- and parts have fewer than the whole
unfoldable pub walked : ℕ → Before → List Token → List Token
walked zero before tokens = []
walked (suc turns) before [] = []
walked (suc turns) before (token ∷ tokens) = and_then (step (walked turns Open) before (token ∷ tokens)) (walked turns)

-- the tokens with the standard's equations applied
unfoldable pub expanded : List Token → List Token
expanded tokens = walked (length tokens) Open tokens
