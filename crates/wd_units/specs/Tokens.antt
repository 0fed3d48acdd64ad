-- Single tokens, and what stands at the start of tokens.
use Rattle.std.specs.Prelude.{ℕ, ◌+◌, ◌-◌, ◌==◌, ◌&&◌, ◌||◌, not, Bool, true, false, if◌then◌else◌, List, [], ◌∷◌, Option, Some, None}
use Rattle.wd_lex.specs.declared.token.Terminal.TheVariants as m
use Rattle.wd_lex.specs.declared.token.Token.{Token}
use Rattle.wd_lex.specs.declared.token.TokenKind.{TokenKind}
use Rattle.wd_lex.specs.declared.token.TokenKind.TheVariants as t
use Rattle.wd_operands.specs.Operands.{is_left_bracket, is_sign}
use Rattle.wd_units.specs.declared.token.Stop.{Stop}
use Rattle.wd_units.specs.declared.token.Stop.TheVariants.{Sign, Factor, Operator, Comma, As, Then, Branch, Link, Frame}

infixl 10 ◌>>=◌
abbrev pub ◌>>=◌ : {A B : Type 0} → Option A → (A → Option B) → Option B
None >>= f = None
(Some x) >>= f = f x

-- the first of two that is there
abbrev pub or_else : {A : Type 0} → Option A → Option A → Option A
or_else (Some x) other = Some x
or_else None other = other

abbrev pub is_dot : TokenKind → Bool
is_dot (t.Terminal m.Dot) = true
is_dot _ = false

abbrev pub is_right_bracket : TokenKind → Bool
is_right_bracket (t.Terminal m.RightBracket) = true
is_right_bracket _ = false

abbrev pub is_as : TokenKind → Bool
is_as (t.Terminal m.As) = true
is_as _ = false

abbrev pub is_text : TokenKind → Bool
is_text (t.Literal text) = true
is_text _ = false

abbrev pub is_comparison : TokenKind → Bool
is_comparison (t.Terminal m.Equals) = true
is_comparison (t.Terminal m.NotEquals) = true
is_comparison (t.Terminal m.Less) = true
is_comparison (t.Terminal m.LessOrEqual) = true
is_comparison (t.Terminal m.Greater) = true
is_comparison (t.Terminal m.GreaterOrEqual) = true
is_comparison _ = false

abbrev pub is_case : TokenKind → Bool
is_case (t.Terminal m.Case) = true
is_case _ = false

abbrev pub is_end : TokenKind → Bool
is_end (t.Terminal m.End) = true
is_end _ = false

abbrev pub is_then : TokenKind → Bool
is_then (t.Terminal m.Then) = true
is_then _ = false

-- WHEN, THEN and ELSE
abbrev pub is_branch : TokenKind → Bool
is_branch (t.Terminal m.When) = true
is_branch (t.Terminal m.Then) = true
is_branch (t.Terminal m.Else) = true
is_branch _ = false

-- an item of a list begins after these
abbrev pub begins_item : TokenKind → Bool
begins_item (t.Terminal m.Select) = true
begins_item (t.Terminal m.All) = true
begins_item (t.Terminal m.Distinct) = true
begins_item (t.Terminal m.Comma) = true
begins_item (t.Terminal m.By) = true
begins_item _ = false

-- a text stands somewhere among them
unfoldable pub holds_text : List Token → Bool
holds_text [] = false
holds_text (token ∷ tokens) = is_text token.kind || holds_text tokens

unfoldable pub begins_bracket : List Token → Bool
begins_bracket [] = false
begins_bracket (token ∷ tokens) = is_left_bracket token.kind

abbrev pub is_select : TokenKind → Bool
is_select (t.Terminal m.Select) = true
is_select _ = false

-- a query in brackets: a derived table
unfoldable pub begins_query : List Token → Bool
begins_query (first ∷ second ∷ tokens) = is_left_bracket first.kind && is_select second.kind
begins_query _ = false

-- ---- lengths

-- a star, a slash and a percent sign stand between factors
abbrev pub is_between_factors : TokenKind → Bool
is_between_factors (t.Terminal m.Star) = true
is_between_factors (t.Terminal m.Slash) = true
is_between_factors (t.Terminal m.Percent) = true
is_between_factors _ = false

-- an argument, a value of CASE or what stands in brackets ends before these
abbrev pub closes_value : TokenKind → Bool
closes_value (t.Terminal m.RightBracket) = true
closes_value (t.Terminal m.Comma) = true
closes_value (t.Terminal m.End) = true
closes_value kind = is_branch kind

-- a key and the frame after it end before these
abbrev pub closes_key : TokenKind → Bool
closes_key (t.Terminal m.RightBracket) = true
closes_key (t.Terminal m.Comma) = true
closes_key (t.Terminal m.By) = true
closes_key _ = false

-- What ends a part, where no bracket encloses it: a sign, but a sign right after what stands between factors is that of a factor; what
-- stands between factors; either of these, and what closes a value; a comma; AS; THEN; what begins a branch of CASE; what closes a key.
abbrev pub stops : Stop → Bool → TokenKind → Bool
stops Sign is_factor kind = is_sign kind && not is_factor
stops Factor is_factor kind = is_between_factors kind
stops Operator is_factor kind = is_between_factors kind || (is_sign kind && not is_factor)
stops Comma is_factor (t.Terminal m.Comma) = true
stops Comma is_factor _ = false
stops As is_factor kind = is_as kind
stops Then is_factor kind = is_then kind
stops Branch is_factor kind = is_branch kind
stops Link is_factor kind = is_between_factors kind || (is_sign kind && not is_factor) || closes_value kind
stops Frame is_factor kind = closes_key kind

-- how many brackets are open after a token
abbrev pub depth_after : ℕ → TokenKind → ℕ
depth_after depth (t.Terminal m.LeftBracket) = depth + 1
depth_after depth (t.Terminal m.Case) = depth + 1
depth_after depth (t.Terminal m.RightBracket) = depth - 1
depth_after depth (t.Terminal m.End) = depth - 1
depth_after depth _ = depth

-- how many tokens stand up to where a part ends; so many stand before these, in so many brackets, and a factor begins here or not
unfoldable pub part_from : Stop → ℕ → ℕ → Bool → List Token → ℕ
part_from stop count depth is_factor [] = count
part_from stop count depth is_factor (token ∷ tokens) =
    if depth == 0 && stops stop is_factor token.kind then count else part_from stop (count + 1) (depth_after depth token.kind) (is_between_factors token.kind) tokens

unfoldable pub part_length : Stop → List Token → ℕ
part_length stop tokens = part_from stop 0 0 false tokens
