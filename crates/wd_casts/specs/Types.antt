-- The name of a type at the start of tokens.
use Rattle.std.specs.Prelude.{ℕ, ◌&&◌, codes, Bool, true, false, if◌then◌else◌, List, [], ◌∷◌, Option, Some, None}
use Rattle.std.specs.Str.{bytes_eq}
use Rattle.wd_lex.specs.declared.token.Terminal.TheVariants as m
use Rattle.wd_lex.specs.declared.token.Token.{Token}
use Rattle.wd_lex.specs.declared.token.TokenKind.{TokenKind}
use Rattle.wd_lex.specs.declared.token.TokenKind.TheVariants as t
use Rattle.wd_units.specs.Tokens.{◌>>=◌, begins_bracket}
use Rattle.wd_casts.specs.declared.kind.Kind.{Kind}
use Rattle.wd_casts.specs.declared.kind.Kind.TheVariants as k
use Rattle.wd_casts.specs.Kinds.{kind_of_word}

-- whether a token is this word, which is not reserved
abbrev pub is_word : List ℕ → TokenKind → Bool
is_word text (t.Word word) = bytes_eq word text
is_word text _ = false

-- a type, and the tokens after it
abbrev pub Named : Type 0
Named = Kind × List Token

-- VARYING, after CHARACTER
unfoldable pub varying_at : List Token → Option Named
varying_at [] = None
varying_at (token ∷ tokens) = if is_word (codes "varying") token.kind then Some (k.Text, tokens) else None

-- whether a token is WITH or WITHOUT
abbrev pub is_with : TokenKind → Bool
is_with (t.Terminal m.With) = true
is_with kind = is_word (codes "without") kind

-- the tokens after WITH TIME ZONE or WITHOUT TIME ZONE, if they begin with that; else all of them
unfoldable pub past_zone : List Token → List Token
past_zone (first ∷ second ∷ third ∷ tokens) =
    if is_with first.kind && is_word (codes "time") second.kind && is_word (codes "zone") third.kind then tokens else first ∷ second ∷ third ∷ tokens
past_zone tokens = tokens

-- a type whose name is one word
abbrev pub word_at : TokenKind → List Token → Option Named
word_at (t.Word word) tokens = kind_of_word word >>= λ kind. Some (kind, tokens)
word_at _ tokens = None

unfoldable pub type_from_word : Token → List Token → Option Named
type_from_word first tokens =
    if is_word (codes "character") first.kind then varying_at tokens
    else (if is_word (codes "timestamp") first.kind then Some (k.Timestamp, past_zone tokens) else word_at first.kind tokens)

-- a type that has no length and no number of places
unfoldable pub type_at : List Token → Option Named
type_at [] = None
type_at (first ∷ tokens) = type_from_word first tokens >>= λ found. if begins_bracket found.1 then None else Some found
