-- Single tokens, and what tokens begin with.
use Rattle.std.specs.Str.{bytes_eq}
use Rattle.std.specs.Prelude.{ℕ, ◌==◌, Bool, true, false, if◌then◌else◌, List, [], ◌∷◌, Option, Some, None}
use Rattle.wd_lex.specs.declared.token.Terminal.{Terminal}
use Rattle.wd_lex.specs.declared.token.Terminal.TheVariants as m
use Rattle.wd_lex.specs.declared.token.Token.{Token}
use Rattle.wd_lex.specs.declared.token.TokenKind.{TokenKind}
use Rattle.wd_lex.specs.declared.token.TokenKind.TheVariants as t
use Rattle.wd_lex.specs.Terminals.{terminal_code}
use Rattle.wd_operands.specs.Operands.{is_test_word}

infixl 10 ◌>>=◌
abbrev pub ◌>>=◌ : {A B : Type 0} → Option A → (A → Option B) → Option B
None >>= f = None
(Some x) >>= f = f x

abbrev pub is_terminal : Terminal → TokenKind → Bool
is_terminal x (t.Terminal y) = terminal_code y == terminal_code x
is_terminal x _ = false

-- whether a token is this word, which is not reserved
abbrev pub is_word : List ℕ → TokenKind → Bool
is_word word (t.Word text) = bytes_eq text word
is_word word _ = false

-- the tokens after a terminal, if they begin with it
unfoldable pub past : Terminal → List Token → Option (List Token)
past x [] = None
past x (token ∷ tokens) = if is_terminal x token.kind then Some tokens else None

-- whether a token continues an operand with an operator that binds no less tightly than IS
abbrev pub is_operator : TokenKind → Bool
is_operator (t.Terminal m.Plus) = true
is_operator (t.Terminal m.Minus) = true
is_operator (t.Terminal m.Star) = true
is_operator (t.Terminal m.Slash) = true
is_operator (t.Terminal m.Percent) = true
is_operator (t.Terminal m.Equals) = true
is_operator (t.Terminal m.NotEquals) = true
is_operator (t.Terminal m.Less) = true
is_operator (t.Terminal m.LessOrEqual) = true
is_operator (t.Terminal m.Greater) = true
is_operator (t.Terminal m.GreaterOrEqual) = true
is_operator (t.Terminal m.Not) = true
is_operator (t.Terminal m.Is) = true
is_operator (t.Terminal m.IsNull) = true
is_operator (t.Terminal m.NotNull) = true
is_operator (t.Word text) = is_test_word text
is_operator _ = false

-- whether tokens continue with such an operator
unfoldable pub goes_on : List Token → Bool
goes_on [] = false
goes_on (token ∷ tokens) = is_operator token.kind
