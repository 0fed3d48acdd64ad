-- The tokens of a text.
use Rattle.std.specs.Prelude.{◌≡◌, ℕ, ◌+◌, ◌<◌, ◌≤◌, List, [], ◌∷◌, ◌++◌, length, map, drop, Option, Some, None, if◌then◌else◌, nat_eq}
use Rattle.std.specs.List.{starts_with}
use Rattle.std.specs.Str.{IsUtf8}
use Rattle.wd_lex.specs.declared.token.Span.{Span}
use Rattle.wd_lex.specs.declared.token.Token.{Token}
use Rattle.wd_lex.specs.declared.token.TokenKind.{TokenKind}
use Rattle.wd_lex.specs.Pieces.{Piece, spelling, spellings, ArePieces, kind_of}

-- the most bytes of a text (this project's choice)
abbrev pub most_bytes : ℕ
most_bytes = 65536

-- a text that can be cut at all: short enough, and UTF-8, a byte order mark at its start counted in
pub record IsReadable (text : List ℕ) : Type 0 where
  pub short : length text ≤ most_bytes
  pub utf8 : IsUtf8 text

-- the bytes of U+FEFF
abbrev pub byte_order_mark : List ℕ
byte_order_mark = 0xEF ∷ 0xBB ∷ 0xBF ∷ []

-- where the pieces of a text begin: after a byte order mark at its very start, which is no piece
abbrev pub start_of : List ℕ → ℕ
start_of text = if starts_with nat_eq text byte_order_mark then 3 else 0

-- a token of a kind, where there is one, before others
abbrev pub token_before : Option TokenKind → Span → List Token → List Token
token_before None span tokens = tokens
token_before (Some kind) span tokens = record { kind = kind; span = span } ∷ tokens

-- the tokens of pieces that begin at a place
abbrev pub tokens_from : ℕ → List Piece → List Token
tokens_from start [] = []
tokens_from start (piece ∷ pieces) =
    let end = start + length (spelling piece) in token_before (kind_of piece) (record { start = start; end = end }) (tokens_from end pieces)

-- the text is cut into these pieces, and the rest
pub record IsCut (text : List ℕ) (pieces : List Piece) (rest : List ℕ) : Type 0 where
  pub whole : drop (start_of text) text ≡ spellings pieces ++ rest
  pub each : ArePieces pieces rest

-- the tokens are the text's: it is readable, and they are those of pieces into which all of it is cut
pub record IsLexed (text : List ℕ) (tokens : List Token) : Type 0 where
  pub readable : IsReadable text
  pub pieces : List Piece
  pub cut : IsCut text pieces []
  pub are : tokens ≡ tokens_from (start_of text) pieces

-- what the tokens say
abbrev pub kinds_of : List Token → List TokenKind
kinds_of tokens = map (λ token. token.kind) tokens

-- each token comes after the one before it, and all lie between two places
abbrev pub AreInOrder : ℕ → List Token → ℕ → Type 0
AreInOrder start [] end = start ≤ end
AreInOrder start (token ∷ tokens) end = (start ≤ token.span.start) × (token.span.start < token.span.end) × AreInOrder token.span.end tokens end
