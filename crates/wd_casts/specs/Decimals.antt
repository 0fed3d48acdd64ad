-- Numbers with a point. In a masked text such a number is two numbers with one byte between them; it is replaced by the literal
-- `NUMERIC '12.50'`, as PostgreSQL reads a constant with a point. The quotes hold the query's own text.
use Rattle.std.specs.Prelude.{ℕ, ◌-◌, ◌==◌, ◌&&◌, codes, nat_le, Bool, true, false, if◌then◌else◌, List, [], ◌∷◌, length, slice_range, Option, Some, None}
use Rattle.std.specs.Str.{is_utf8}
use Rattle.wd_lex.specs.declared.token.Span.{Span}
use Rattle.wd_lex.specs.declared.token.Token.{Token}
use Rattle.wd_lex.specs.declared.token.TokenKind.{TokenKind}
use Rattle.wd_lex.specs.declared.token.TokenKind.TheVariants as t

abbrev pub is_number : TokenKind → Bool
is_number (t.Number number) = true
is_number _ = false

-- two numbers with one byte between them
abbrev pub is_pair : Token → Token → Bool
is_pair first second = is_number first.kind && is_number second.kind && second.span.start - first.span.end == 1

-- bytes as a text
abbrev pub text_of : List ℕ → Option (List ℕ)
text_of bytes = if is_utf8 bytes then Some bytes else None

-- the text of the query from one place to another
unfoldable pub said_between : List ℕ → ℕ → ℕ → Option (List ℕ)
said_between query start end = if nat_le start end && nat_le end (length query) then text_of (slice_range query start end) else None

-- the number with a point at the start
unfoldable pub decimal_at : List ℕ → List Token → Option (List ℕ)
decimal_at query (first ∷ second ∷ tokens) = if is_pair first second then said_between query first.span.start second.span.end else None
decimal_at query _ = None

-- the word NUMERIC in place of the first of the two numbers, where a number with a point was found; otherwise the token itself
abbrev pub word_for : Option (List ℕ) → Token → Token
word_for (Some said) token = record { kind = t.Word (codes "numeric"); span = token.span }
word_for None token = token

abbrev pub text_at : List ℕ → Span → Token
text_at said at = record { kind = t.Literal said; span = at }

-- the replacement of a token that ends a number with a point, or perhaps begins one; and the number with a point that the next token
-- ends, if any
abbrev pub next_for : Option (List ℕ) → Option (List ℕ) → Token → Token × Option (List ℕ)
next_for (Some said) begun token = (text_at said token.span, None)
next_for None begun token = (word_for begun token, begun)

-- tokens of the masked query with literals; the first of them ends a number with a point, if one was begun
unfoldable pub literals_from : List ℕ → Option (List ℕ) → List Token → List Token
literals_from query said [] = []
literals_from query said (token ∷ tokens) =
    let next = next_for said (decimal_at query (token ∷ tokens)) token in next.0 ∷ literals_from query next.1 tokens

-- the tokens of the masked query with a literal for each number with a point
unfoldable pub with_literals : List ℕ → List Token → List Token
with_literals query tokens = literals_from query None tokens
