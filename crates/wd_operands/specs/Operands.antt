-- Arithmetic operands at the start of a list of tokens: what binds more tightly than BETWEEN, IN and comparisons. Each length is 0 where
-- the tokens don't begin so.
use Rattle.std.specs.Prelude.{ℕ, zero, suc, ◌+◌, ◌||◌, ◌&&◌, ◌==◌, not, codes, nat_lt, Bool, true, false, if◌then◌else◌, List, [], ◌∷◌, length, drop}
use Rattle.std.specs.Str.{bytes_eq}
use Rattle.wd_lex.specs.declared.token.Terminal.TheVariants as m
use Rattle.wd_lex.specs.declared.token.Token.{Token}
use Rattle.wd_lex.specs.declared.token.TokenKind.{TokenKind}
use Rattle.wd_lex.specs.declared.token.TokenKind.TheVariants as t
use Rattle.wd_operands.specs.Nests.{nest_length}

-- ---- single tokens

-- a word that comes between an operand and the next is not a name
abbrev pub is_test_word : List ℕ → Bool
is_test_word text = bytes_eq text (codes "between") || bytes_eq text (codes "in") || bytes_eq text (codes "like") || bytes_eq text (codes "ilike") || bytes_eq text (codes "similar")

-- a name is a word, or it is in quotes
abbrev pub is_name : TokenKind → Bool
is_name (t.Word text) = not (is_test_word text)
is_name (t.Quoted text) = true
is_name _ = false

abbrev pub is_filter : TokenKind → Bool
is_filter (t.Word text) = bytes_eq text (codes "filter")
is_filter _ = false

abbrev pub is_left_bracket : TokenKind → Bool
is_left_bracket (t.Terminal m.LeftBracket) = true
is_left_bracket _ = false

abbrev pub is_over : TokenKind → Bool
is_over (t.Terminal m.Over) = true
is_over _ = false

-- a text, a number, NULL, TRUE or FALSE
abbrev pub is_constant : TokenKind → Bool
is_constant (t.Literal text) = true
is_constant (t.Number number) = true
is_constant (t.Terminal m.Null) = true
is_constant (t.Terminal m.True) = true
is_constant (t.Terminal m.False) = true
is_constant _ = false

abbrev pub is_sign : TokenKind → Bool
is_sign (t.Terminal m.Plus) = true
is_sign (t.Terminal m.Minus) = true
is_sign _ = false

abbrev pub is_operator : TokenKind → Bool
is_operator (t.Terminal m.Plus) = true
is_operator (t.Terminal m.Minus) = true
is_operator (t.Terminal m.Star) = true
is_operator (t.Terminal m.Slash) = true
is_operator (t.Terminal m.Percent) = true
is_operator _ = false

-- ---- primaries

-- ( .. )
unfoldable pub brackets_length : List Token → ℕ
brackets_length [] = 0
brackets_length (token ∷ tokens) = if is_left_bracket token.kind then nest_length (token ∷ tokens) else 0

-- FILTER ( .. )
unfoldable pub filter_length : List Token → ℕ
filter_length [] = 0
filter_length (token ∷ tokens) = if is_filter token.kind && nat_lt 0 (brackets_length tokens) then 1 + brackets_length tokens else 0

-- name | ( .. )
unfoldable pub window_length : List Token → ℕ
window_length [] = 0
window_length (token ∷ tokens) = if is_name token.kind then 1 else brackets_length (token ∷ tokens)

-- OVER name | OVER ( .. )
unfoldable pub over_length : List Token → ℕ
over_length [] = 0
over_length (token ∷ tokens) = if is_over token.kind && nat_lt 0 (window_length tokens) then 1 + window_length tokens else 0

-- [FILTER ( .. )] [OVER name | OVER ( .. )]
unfoldable pub call_tail_length : List Token → ℕ
call_tail_length tokens = filter_length tokens + over_length (drop (filter_length tokens) tokens)

-- name ( .. ) [FILTER ( .. )] [OVER name | OVER ( .. )]
unfoldable pub call_length : List Token → ℕ
call_length [] = 0
call_length (token ∷ tokens) =
    if is_name token.kind && nat_lt 0 (brackets_length tokens) then 1 + brackets_length tokens + call_tail_length (drop (brackets_length tokens) tokens) else 0

-- a word and a text
abbrev pub typed_by : TokenKind → List Token → ℕ
typed_by (t.Literal text) tokens = 2
typed_by _ tokens = 0

abbrev pub typed_after : TokenKind → List Token → ℕ
typed_after (t.Word word) (token ∷ tokens) = if is_test_word word then 0 else typed_by token.kind tokens
typed_after _ _ = 0

abbrev pub typed_length : List Token → ℕ
typed_length [] = 0
typed_length (token ∷ tokens) = typed_after token.kind tokens

-- . name
abbrev pub named_after : TokenKind → List Token → Bool
named_after (t.Terminal m.Dot) (token ∷ tokens) = is_name token.kind
named_after _ _ = false

abbrev pub is_column : List Token → Bool
is_column [] = false
is_column (token ∷ tokens) = named_after token.kind tokens

-- name [. name]
unfoldable pub name_length : List Token → ℕ
name_length [] = 0
name_length (token ∷ tokens) = if is_name token.kind then (if is_column tokens then 3 else 1) else 0

unfoldable pub constant_length : List Token → ℕ
constant_length [] = 0
constant_length (token ∷ tokens) = if is_constant token.kind then 1 else 0

-- the first of two lengths that is not 0
abbrev pub or_else : ℕ → ℕ → ℕ
or_else first second = if first == 0 then second else first

-- brackets, a call, a word and a text, a name, or a constant
unfoldable pub primary_length : List Token → ℕ
primary_length tokens = or_else (or_else (nest_length tokens) (call_length tokens)) (or_else (or_else (typed_length tokens) (name_length tokens)) (constant_length tokens))

-- ---- operands

-- how many signs the tokens begin with, added to the given number
unfoldable pub signs_from : ℕ → List Token → ℕ
signs_from count [] = count
signs_from count (token ∷ tokens) = if is_sign token.kind then signs_from (count + 1) tokens else count

-- signs and a primary
unfoldable pub factor_length : List Token → ℕ
factor_length tokens = let signs = signs_from 0 tokens in let primary = primary_length (drop signs tokens) in if primary == 0 then 0 else signs + primary

-- an operator, signs and a primary
unfoldable pub link_length : List Token → ℕ
link_length [] = 0
link_length (token ∷ tokens) = if is_operator token.kind then (if factor_length tokens == 0 then 0 else 1 + factor_length tokens) else 0

-- how many tokens an operand takes with all links from here on, added to a count; the first number bounds the turns
unfoldable pub links_from : ℕ → ℕ → List Token → ℕ
links_from zero count tokens = count
links_from (suc turns) count tokens = if link_length tokens == 0 then count else links_from turns (count + link_length tokens) (drop (link_length tokens) tokens)

-- signs, a primary, and all links after it: the count of the tokens is always enough
unfoldable pub operand_length : List Token → ℕ
operand_length tokens = if factor_length tokens == 0 then 0 else links_from (length tokens) (factor_length tokens) (drop (factor_length tokens) tokens)
