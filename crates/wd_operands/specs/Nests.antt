-- Tokens between brackets: `(` and `)`, CASE and END.
use Rattle.std.specs.Prelude.{ℕ, ◌+◌, Bool, true, false, if◌then◌else◌, nat_lt, List, [], ◌∷◌, length, Option, Some, None}
use Rattle.wd_lex.specs.declared.token.Terminal.TheVariants as m
use Rattle.wd_lex.specs.declared.token.Token.{Token}
use Rattle.wd_lex.specs.declared.token.TokenKind.{TokenKind}
use Rattle.wd_lex.specs.declared.token.TokenKind.TheVariants as t
use Rattle.wd_operands.specs.declared.nest.Bracket.{Bracket}
use Rattle.wd_operands.specs.declared.nest.Bracket.TheVariants.{Round, Case}
use Rattle.wd_operands.specs.declared.nest.Step.{Step}
use Rattle.wd_operands.specs.declared.nest.Step.TheVariants.{Opens, Closes, Passes}

-- the most brackets that may be open at once (this project's choice)
abbrev pub most_open : ℕ
most_open = 64

-- what a token does to the open brackets
abbrev pub step_of : TokenKind → Step
step_of (t.Terminal m.LeftBracket) = Opens Round
step_of (t.Terminal m.Case) = Opens Case
step_of (t.Terminal m.RightBracket) = Closes Round
step_of (t.Terminal m.End) = Closes Case
step_of _ = Passes

abbrev pub opens : Step → Bool
opens (Opens bracket) = true
opens _ = false

-- a bracket is closed by one of its own kind
abbrev pub is_pair : Bracket → Bracket → Bool
is_pair Round Round = true
is_pair Case Case = true
is_pair _ _ = false

-- what is open after a closing bracket, the last opened first
abbrev pub closed_by : Bracket → List Bracket → Option (List Bracket)
closed_by closing [] = None
closed_by closing (opened ∷ unclosed) = if is_pair opened closing then Some unclosed else None

-- what is open after a token; nothing can follow where it closes a bracket that is not open, or opens one too many
abbrev pub open_after : List Bracket → Step → Option (List Bracket)
open_after unclosed (Opens bracket) = if nat_lt (length unclosed) most_open then Some (bracket ∷ unclosed) else None
open_after unclosed (Closes bracket) = closed_by bracket unclosed
open_after unclosed Passes = Some unclosed

-- the tokens end where no bracket is open any more, and continue where one is
abbrev pub end_or_on : ℕ → Option (List Bracket) → (List Bracket → ℕ) → ℕ
end_or_on count None on = 0
end_or_on count (Some []) on = count
end_or_on count (Some (bracket ∷ unclosed)) on = on (bracket ∷ unclosed)

-- how many tokens there are up to the one after which no bracket is open, from a number of tokens before these and the brackets open
-- before them
unfoldable pub nest_from : ℕ → List Bracket → List Token → ℕ
nest_from count unclosed [] = 0
nest_from count unclosed (token ∷ tokens) = end_or_on (count + 1) (open_after unclosed (step_of token.kind)) (λ now. nest_from (count + 1) now tokens)

-- how many tokens there are up to and including the bracket that closes the first one
unfoldable pub nest_length : List Token → ℕ
nest_length [] = 0
nest_length (token ∷ tokens) = if opens (step_of token.kind) then nest_from 0 [] (token ∷ tokens) else 0
