-- Tokens as this project prints them: each in its own spelling, and white space after it.
use Rattle.std.specs.Prelude.{◌≡◌, ℕ, ◌<◌, ◌≤◌, codes, decimal, List, [], ◌∷◌, ◌++◌, map, length, None, All, ⊤}
use Rattle.std.specs.Char.{to_ascii_lowercase}
use Rattle.std.specs.List.{flat_map}
use Rattle.wd_lex.specs.declared.token.Terminal.{Terminal}
use Rattle.wd_lex.specs.declared.token.Terminal.TheVariants as m
use Rattle.wd_lex.specs.declared.token.Token.{Token}
use Rattle.wd_lex.specs.declared.token.TokenKind.{TokenKind}
use Rattle.wd_lex.specs.declared.token.TokenKind.TheVariants as k
use Rattle.wd_lex.specs.Characters.{begins_word, goes_on_word}
use Rattle.wd_lex.specs.Lexed.{IsLexed, IsReadable, kinds_of}
use Rattle.wd_lex.specs.Pieces.{Piece, Word, Number, QuotedName, QuotedText, Symbol, IsRunOf, greatest_number, spelling}
use Rattle.wd_lex.specs.Terminals.{lookup, reserved_words}

-- a reserved word in capitals, or a symbol
unfoldable pub terminal_piece : Terminal → Piece
terminal_piece m.All = Word (codes "ALL")
terminal_piece m.And = Word (codes "AND")
terminal_piece m.As = Word (codes "AS")
terminal_piece m.Asc = Word (codes "ASC")
terminal_piece m.By = Word (codes "BY")
terminal_piece m.Case = Word (codes "CASE")
terminal_piece m.Constraint = Word (codes "CONSTRAINT")
terminal_piece m.Create = Word (codes "CREATE")
terminal_piece m.Cross = Word (codes "CROSS")
terminal_piece m.Desc = Word (codes "DESC")
terminal_piece m.Distinct = Word (codes "DISTINCT")
terminal_piece m.Else = Word (codes "ELSE")
terminal_piece m.End = Word (codes "END")
terminal_piece m.False = Word (codes "FALSE")
terminal_piece m.Fetch = Word (codes "FETCH")
terminal_piece m.From = Word (codes "FROM")
terminal_piece m.Full = Word (codes "FULL")
terminal_piece m.Group = Word (codes "GROUP")
terminal_piece m.Groups = Word (codes "GROUPS")
terminal_piece m.Having = Word (codes "HAVING")
terminal_piece m.Inner = Word (codes "INNER")
terminal_piece m.Is = Word (codes "IS")
terminal_piece m.IsNull = Word (codes "ISNULL")
terminal_piece m.Join = Word (codes "JOIN")
terminal_piece m.Left = Word (codes "LEFT")
terminal_piece m.Limit = Word (codes "LIMIT")
terminal_piece m.Natural = Word (codes "NATURAL")
terminal_piece m.Not = Word (codes "NOT")
terminal_piece m.NotNull = Word (codes "NOTNULL")
terminal_piece m.Null = Word (codes "NULL")
terminal_piece m.Offset = Word (codes "OFFSET")
terminal_piece m.On = Word (codes "ON")
terminal_piece m.Or = Word (codes "OR")
terminal_piece m.Order = Word (codes "ORDER")
terminal_piece m.Outer = Word (codes "OUTER")
terminal_piece m.Over = Word (codes "OVER")
terminal_piece m.Partition = Word (codes "PARTITION")
terminal_piece m.Primary = Word (codes "PRIMARY")
terminal_piece m.Range = Word (codes "RANGE")
terminal_piece m.Right = Word (codes "RIGHT")
terminal_piece m.Rows = Word (codes "ROWS")
terminal_piece m.Select = Word (codes "SELECT")
terminal_piece m.Table = Word (codes "TABLE")
terminal_piece m.Then = Word (codes "THEN")
terminal_piece m.True = Word (codes "TRUE")
terminal_piece m.Union = Word (codes "UNION")
terminal_piece m.Unique = Word (codes "UNIQUE")
terminal_piece m.Using = Word (codes "USING")
terminal_piece m.When = Word (codes "WHEN")
terminal_piece m.Where = Word (codes "WHERE")
terminal_piece m.Window = Word (codes "WINDOW")
terminal_piece m.With = Word (codes "WITH")
terminal_piece m.LeftBracket = Symbol (codes "(")
terminal_piece m.RightBracket = Symbol (codes ")")
terminal_piece m.Comma = Symbol (codes ",")
terminal_piece m.Dot = Symbol (codes ".")
terminal_piece m.Semicolon = Symbol (codes ";")
terminal_piece m.Star = Symbol (codes "*")
terminal_piece m.Plus = Symbol (codes "+")
terminal_piece m.Minus = Symbol (codes "-")
terminal_piece m.Slash = Symbol (codes "/")
terminal_piece m.Percent = Symbol (codes "%")
terminal_piece m.Equals = Symbol (codes "=")
terminal_piece m.NotEquals = Symbol (codes "<>")
terminal_piece m.Less = Symbol (codes "<")
terminal_piece m.LessOrEqual = Symbol (codes "<=")
terminal_piece m.Greater = Symbol (codes ">")
terminal_piece m.GreaterOrEqual = Symbol (codes ">=")

-- the piece that a token is printed as
abbrev pub piece_of : TokenKind → Piece
piece_of (k.Terminal terminal) = terminal_piece terminal
piece_of (k.Word word) = Word word
piece_of (k.Quoted name) = QuotedName name
piece_of (k.Literal text) = QuotedText text
piece_of (k.Number number) = Number (decimal number)

-- the white space after a terminal: a line feed after a comma or a semicolon, a blank after others
unfoldable pub gap_after : Terminal → ℕ
gap_after m.Comma = 10
gap_after m.Semicolon = 10
gap_after _ = 32

-- the white space after a token
abbrev pub gap : TokenKind → ℕ
gap (k.Terminal terminal) = gap_after terminal
gap _ = 32

abbrev pub printed_token : TokenKind → List ℕ
printed_token kind = spelling (piece_of kind) ++ gap kind ∷ []

abbrev pub printed : List TokenKind → List ℕ
printed kinds = flat_map printed_token kinds

-- a word in lower case that is not reserved
pub record IsPlainWord (word : List ℕ) : Type 0 where
  pub run : IsRunOf begins_word goes_on_word word
  pub lower : map to_ascii_lowercase word ≡ word
  pub free : lookup reserved_words word ≡ None

-- a token that has a spelling: a word in lower case that is not reserved, a name that is not empty, a number that the lexer reads
abbrev pub IsPrintable : TokenKind → Type 0
IsPrintable (k.Terminal terminal) = ⊤
IsPrintable (k.Word word) = IsPlainWord word
IsPrintable (k.Quoted name) = 0 < length name
IsPrintable (k.Literal text) = ⊤
IsPrintable (k.Number number) = number ≤ greatest_number

-- these are the tokens that the text has
pub record HasTokens (text : List ℕ) (kinds : List TokenKind) : Type 0 where
  pub tokens : List Token
  pub lexed : IsLexed text tokens
  pub are : kinds_of tokens ≡ kinds

-- Printed tokens are read as just these.
abbrev pub PrintedIsRead : Type 0
PrintedIsRead = (kinds : List TokenKind) → All IsPrintable kinds → IsReadable (printed kinds) → HasTokens (printed kinds) kinds
