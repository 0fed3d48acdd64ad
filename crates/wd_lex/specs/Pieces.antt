-- The pieces of a text: white space, comments and tokens. They are those of PostgreSQL's manual, section 4.1, except where a comment
-- says that something is this project's choice.
use Rattle.std.specs.Prelude.{◌≡◌, ◌≢◌, ℕ, ◌≤◌, ◌^◌, Bool, true, false, not, codes, List, [], ◌∷◌, ◌++◌, map, Option, Some, None, IsSome, if◌then◌else◌, ◌==◌}
use Rattle.std.specs.Char.{to_ascii_lowercase}
use Rattle.std.specs.List.{flat_map, list_all}
use Rattle.std.specs.Option.{option_map}
use Rattle.std.specs.Str.Parse.{digits_value}
use Rattle.wd_lex.specs.declared.token.Terminal.{Terminal}
use Rattle.wd_lex.specs.declared.token.TokenKind.{TokenKind}
use Rattle.wd_lex.specs.declared.token.TokenKind.TheVariants as k
use Rattle.wd_lex.specs.Terminals.{reserved_words, symbols, lookup}
use Rattle.wd_lex.specs.Characters.{is_blank, is_line_end, is_digit, begins_word, goes_on_word, spoils_number, single_quote, double_quote}

-- A piece, with what its spelling leaves open: all bytes; of a line comment what follows its `--`; of a block comment
-- what follows its `/*`, up to and with the `*/` that closes it; of a quoted name or text what its quotes hold.
pub data Piece : Type 0 where
  Blanks : List ℕ → Piece
  LineComment : List ℕ → Piece
  BlockComment : List ℕ → Piece
  Word : List ℕ → Piece
  Number : List ℕ → Piece
  QuotedName : List ℕ → Piece
  QuotedText : List ℕ → Piece
  Symbol : List ℕ → Piece

-- what quotes hold, with each quote in it doubled
abbrev pub doubled : ℕ → List ℕ → List ℕ
doubled quote inside = flat_map (λ b. if b == quote then b ∷ b ∷ [] else b ∷ []) inside

-- what quotes hold, doubled and between its quotes
abbrev pub in_quotes : ℕ → List ℕ → List ℕ
in_quotes quote inside = quote ∷ doubled quote inside ++ quote ∷ []

-- the bytes of a piece
abbrev pub spelling : Piece → List ℕ
spelling (Blanks bytes) = bytes
spelling (LineComment line) = codes "--" ++ line
spelling (BlockComment bytes) = codes "/*" ++ bytes
spelling (Word bytes) = bytes
spelling (Number digits) = digits
spelling (QuotedName name) = in_quotes double_quote name
spelling (QuotedText text) = in_quotes single_quote text
spelling (Symbol bytes) = bytes

-- What follows a `/*` up to and with the `*/` that closes it: characters that neither open nor close a comment,
-- and whole comments.
pub data EndsComment : List ℕ → Type 0 where
  closing : EndsComment (codes "*/")
  character : (b c : ℕ) (bytes : List ℕ) → b ∷ c ∷ [] ≢ codes "/*" → b ∷ c ∷ [] ≢ codes "*/" → EndsComment (c ∷ bytes) → EndsComment (b ∷ c ∷ bytes)
  comment : (inner bytes : List ℕ) → EndsComment inner → EndsComment bytes → EndsComment (codes "/*" ++ inner ++ bytes)

-- a byte that may begin the run, and any number of bytes that may continue it
abbrev pub IsRunOf : (ℕ → Bool) → (ℕ → Bool) → List ℕ → Type 0
IsRunOf begins goes_on [] = ⊥
IsRunOf begins goes_on (b ∷ bytes) = (begins b ≡ true) × (list_all goes_on bytes ≡ true)

-- What a piece of each kind is made of: white space; a comment up to the end of its line; a comment that nests others;
-- letters and digits; digits; at least one byte in the quotes of a name; any in those of a text; a symbol.
abbrev pub IsPiece : Piece → Type 0
IsPiece (Blanks bytes) = IsRunOf is_blank is_blank bytes
IsPiece (LineComment line) = list_all (λ b. not (is_line_end b)) line ≡ true
IsPiece (BlockComment bytes) = EndsComment bytes
IsPiece (Word bytes) = IsRunOf begins_word goes_on_word bytes
IsPiece (Number digits) = IsRunOf is_digit is_digit digits
IsPiece (QuotedName name) = name ≢ []
IsPiece (QuotedText text) = Unit {0}
IsPiece (Symbol bytes) = IsSome (lookup symbols bytes)

-- A piece is as long as it can be: no piece begins with it and the byte that follows.
abbrev pub IsLongest : Piece → List ℕ → Type 0
IsLongest piece [] = Unit {0}
IsLongest piece (next ∷ rest) = (longer : Piece) (more : List ℕ) → IsPiece longer → spelling longer ≢ spelling piece ++ next ∷ more

-- the greatest number: the size of the least one of 64 bits with a sign, so that a minus may come before it
abbrev pub greatest_number : ℕ
greatest_number = 2 ^ 63

-- a number is small enough, and no letter, `_` or `.` follows it at once
abbrev pub IsGoodNumber : List ℕ → List ℕ → Type 0
IsGoodNumber digits [] = digits_value 10 digits ≤ greatest_number
IsGoodNumber digits (next ∷ rest) = (digits_value 10 digits ≤ greatest_number) × (spoils_number next ≡ false)

-- what a piece asks of its value, and of what follows it
abbrev pub IsGood : Piece → List ℕ → Type 0
IsGood (Number digits) rest = IsGoodNumber digits rest
IsGood _ rest = Unit {0}

-- a piece that may come before these bytes
pub record Stands (piece : Piece) (rest : List ℕ) : Type 0 where
  pub is : IsPiece piece
  pub longest : IsLongest piece rest
  pub good : IsGood piece rest

-- the bytes of pieces, one after another
abbrev pub spellings : List Piece → List ℕ
spellings pieces = flat_map spelling pieces

-- each piece may come before the next, and the last before the rest
abbrev pub ArePieces : List Piece → List ℕ → Type 0
ArePieces [] rest = Unit {0}
ArePieces (piece ∷ pieces) rest = Stands piece (spellings pieces ++ rest) × ArePieces pieces rest

-- an unquoted word in lower case is its reserved word, or a name
abbrev pub word_kind : List ℕ → Option Terminal → TokenKind
word_kind word (Some terminal) = k.Terminal terminal
word_kind word None = k.Word word

-- the token that a piece is; white space and comments are no token
abbrev pub kind_of : Piece → Option TokenKind
kind_of (Blanks bytes) = None
kind_of (LineComment line) = None
kind_of (BlockComment bytes) = None
kind_of (Word bytes) = let word = map to_ascii_lowercase bytes in Some (word_kind word (lookup reserved_words word))
kind_of (Number digits) = Some (k.Number (digits_value 10 digits))
kind_of (QuotedName name) = Some (k.Quoted name)
kind_of (QuotedText text) = Some (k.Literal text)
kind_of (Symbol bytes) = option_map k.Terminal (lookup symbols bytes)
