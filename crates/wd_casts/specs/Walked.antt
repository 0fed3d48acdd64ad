-- Tokens with their casts written out.
use Rattle.std.specs.Prelude.{ℕ, zero, suc, ◌==◌, ◌++◌, Bool, true, false, if◌then◌else◌, List, [], ◌∷◌, length, Option, Some, None}
use Rattle.wd_lex.specs.declared.token.Terminal.TheVariants as m
use Rattle.wd_lex.specs.declared.token.Token.{Token}
use Rattle.wd_lex.specs.declared.token.TokenKind.{TokenKind}
use Rattle.wd_lex.specs.declared.token.TokenKind.TheVariants as t
use Rattle.wd_operands.specs.Operands.{is_test_word}
use Rattle.wd_dialect_read.specs.declared.said.Statement.{Statement}
use Rattle.wd_units.specs.Tokens.{◌>>=◌}
use Rattle.wd_casts.specs.declared.known.Known.{Known}
use Rattle.wd_casts.specs.declared.known.Known.TheVariants.{Nothing}
use Rattle.wd_casts.specs.declared.term.Cast.{Cast}
use Rattle.wd_casts.specs.Equations.{cast_tokens, equation}
use Rattle.wd_casts.specs.Known.{known_after, known_as, known_of}
use Rattle.wd_casts.specs.Names.{Kinds, kind_named, uses}
use Rattle.wd_casts.specs.Terms.{Term, term_at}

-- ---- casts whose equations are known

-- an operand, what is known of it, its casts, and the tokens after them
pub record Place : Type 0 where
  pub known : Known
  pub operand : List Token
  pub casts : List Cast
  pub rest : List Token

abbrev pub is_nothing : Known → Bool
is_nothing Nothing = true
is_nothing _ = false

-- a term as a place, if it has a cast and each of its casts has an equation
abbrev pub place_of : Known → Term → Option Place
place_of known term =
    if length term.casts == 0 then None
    else (if is_nothing (known_after known term.casts) then None else Some (record { known = known; operand = term.operand; casts = term.casts; rest = term.rest }))

unfoldable pub place_at : Kinds → Bool → List Token → Option Place
place_at kinds begins tokens = if begins then (term_at tokens >>= λ term. place_of (known_of kinds term.operand) term) else None

-- an operand with its casts written out, the first of them first
unfoldable pub cast_by : Known → List Cast → List Token → List Token
cast_by known [] operand = operand
cast_by known (cast ∷ casts) operand = cast_by (known_as known cast.kind) casts (cast_tokens cast.at operand (equation known cast.kind))

-- ---- from left to right

-- An operand may begin after a token that neither ends an operand nor continues one.
abbrev pub begins_after : TokenKind → Bool
begins_after (t.Word text) = is_test_word text
begins_after (t.Quoted text) = false
begins_after (t.Literal text) = false
begins_after (t.Number number) = false
begins_after (t.Terminal m.RightBracket) = false
begins_after (t.Terminal m.End) = false
begins_after (t.Terminal m.Dot) = false
begins_after (t.Terminal m.Over) = false
begins_after (t.Terminal m.Null) = false
begins_after (t.Terminal m.True) = false
begins_after (t.Terminal m.False) = false
begins_after _ = true

-- what is written, whether an operand may begin after it, and the tokens from there on
abbrev pub Step : Type 0
Step = List Token × Bool × List Token

abbrev pub step_by : (List Token → List Token) → List Token → Option Place → Step
step_by inner tokens (Some place) = (cast_by place.known place.casts (inner place.operand), false, place.rest)
step_by inner [] None = ([], false, [])
step_by inner (token ∷ tokens) None = (token ∷ [], begins_after token.kind, tokens)

unfoldable pub step : (List Token → List Token) → Kinds → Bool → List Token → Step
step inner kinds begins tokens = step_by inner tokens (place_at kinds begins tokens)

abbrev pub and_then : Step → (Bool → List Token → List Token) → List Token
and_then first more = first.0 ++ more first.1 first.2

-- step by step to the end; the number bounds the steps. The count of the tokens is enough, since each step takes at least one token,
-- and an operand has fewer than the whole
unfoldable pub walked : Kinds → ℕ → Bool → List Token → List Token
walked kinds zero begins tokens = []
walked kinds (suc turns) begins [] = []
walked kinds (suc turns) begins (token ∷ tokens) = and_then (step (walked kinds turns true) kinds begins (token ∷ tokens)) (walked kinds turns)

-- the tokens of a query over the tables of these statements, without the casts whose equations are known
unfoldable pub without_casts : List Statement → List Token → List Token
without_casts statements tokens = walked (kind_named (uses statements tokens)) (length tokens) true tokens
