-- The causes of refusals: what a text has that is refused.
use Rattle.std.specs.Prelude.{◌≡◌, ◌≢◌, ℕ, ◌+◌, ◌<◌, ◌≤◌, ◌⊎◌, false, ◌||◌, ◌==◌, codes, List, [], ◌∷◌, ◌++◌, length, Option, Some, None, Result, Ok, Err}
use Rattle.std.specs.Str.{IsUtf8}
use Rattle.wd_lex.specs.declared.error.LexError.{LexError}
use Rattle.wd_lex.specs.declared.error.LexError.TheVariants.{UnknownCharacter, TextNotClosed, NameNotClosed, BadNumber, CommentNotClosed, NotUtf8, TooLong, OutOfMemory}
use Rattle.wd_lex.specs.Characters.{is_blank, is_digit, begins_word, single_quote, double_quote}
use Rattle.wd_lex.specs.Pieces.{Piece, Number, Symbol, IsPiece, EndsComment, IsLongest, IsGoodNumber, doubled, spellings}
use Rattle.wd_lex.specs.declared.token.Token.{Token}
use Rattle.wd_lex.specs.Lexed.{IsCut, IsLexed, IsReadable, most_bytes, start_of}

-- the number of a refusal
abbrev pub number_of : LexError → Option ℕ
number_of (UnknownCharacter place) = Some 101
number_of (TextNotClosed place) = Some 102
number_of (NameNotClosed place) = Some 103
number_of (BadNumber place) = Some 104
number_of (CommentNotClosed place) = Some 105
number_of NotUtf8 = Some 106
number_of TooLong = Some 107
number_of OutOfMemory = None

-- the place that a refusal names
abbrev pub place_of : LexError → Option ℕ
place_of (UnknownCharacter place) = Some place
place_of (TextNotClosed place) = Some place
place_of (NameNotClosed place) = Some place
place_of (BadNumber place) = Some place
place_of (CommentNotClosed place) = Some place
place_of NotUtf8 = None
place_of TooLong = None
place_of OutOfMemory = None

-- the bytes begin with this one
abbrev pub BeginsWith : ℕ → List ℕ → Type 0
BeginsWith b [] = ⊥
BeginsWith b (first ∷ rest) = first ≡ b

-- After an opening quote no quote closes: where one follows a whole inside, it is the first of two.
abbrev pub IsOpen : ℕ → List ℕ → Type 0
IsOpen quote bytes = (inside rest : List ℕ) → bytes ≡ doubled quote inside ++ quote ∷ rest → BeginsWith quote rest

-- a character with which nothing begins: no white space, letter, `_`, digit or quote, and no symbol begins there
abbrev pub IsUnknown : List ℕ → Type 0
IsUnknown [] = ⊥
IsUnknown (b ∷ rest) =
    ((is_blank b || begins_word b || is_digit b || b == single_quote || b == double_quote) ≡ false)
    × ((symbol more : List ℕ) → IsPiece (Symbol symbol) → b ∷ rest ≢ symbol ++ more)

-- a text in single quotes that is not closed
abbrev pub IsOpenText : List ℕ → Type 0
IsOpenText bytes = (rest : List ℕ) × (bytes ≡ single_quote ∷ rest) × IsOpen single_quote rest

-- a quoted name that is empty, or not closed
abbrev pub IsOpenName : List ℕ → Type 0
IsOpenName bytes = (rest : List ℕ) × (bytes ≡ double_quote ∷ rest)
    × (IsOpen double_quote rest ⊎ ((more : List ℕ) × (rest ≡ double_quote ∷ more) × ¬ (BeginsWith double_quote more)))

-- all digits at the place are a number that is too large, or that a letter, `_` or `.` follows at once
abbrev pub IsBadNumber : List ℕ → Type 0
IsBadNumber bytes = (digits rest : List ℕ) × (bytes ≡ digits ++ rest) × IsPiece (Number digits) × IsLongest (Number digits) rest × ¬ (IsGoodNumber digits rest)

-- a comment that nothing closes
abbrev pub IsOpenComment : List ℕ → Type 0
IsOpenComment bytes = (rest : List ℕ) × (bytes ≡ codes "/*" ++ rest) × ((inside more : List ℕ) → EndsComment inside → rest ≢ inside ++ more)

-- what is at the place where a piece is refused
abbrev pub IsRefused : LexError → List ℕ → Type 0
IsRefused (UnknownCharacter place) bytes = IsUnknown bytes
IsRefused (TextNotClosed place) bytes = IsOpenText bytes
IsRefused (NameNotClosed place) bytes = IsOpenName bytes
IsRefused (BadNumber place) bytes = IsBadNumber bytes
IsRefused (CommentNotClosed place) bytes = IsOpenComment bytes
IsRefused NotUtf8 bytes = ⊥
IsRefused TooLong bytes = ⊥
IsRefused OutOfMemory bytes = ⊥

-- The text before a place is cut into pieces, and what is at the place is refused.
pub record IsRefusedAt (refusal : LexError) (text : List ℕ) (place : ℕ) : Type 0 where
  pub readable : IsReadable text
  pub pieces : List Piece
  pub rest : List ℕ
  pub before : IsCut text pieces rest
  pub there : place ≡ start_of text + length (spellings pieces)
  pub refused : IsRefused refusal rest

-- a text has the cause of a refusal; running out of memory has none
abbrev pub HasCause : LexError → List ℕ → Type 0
HasCause (UnknownCharacter place) text = IsRefusedAt (UnknownCharacter place) text place
HasCause (TextNotClosed place) text = IsRefusedAt (TextNotClosed place) text place
HasCause (NameNotClosed place) text = IsRefusedAt (NameNotClosed place) text place
HasCause (BadNumber place) text = IsRefusedAt (BadNumber place) text place
HasCause (CommentNotClosed place) text = IsRefusedAt (CommentNotClosed place) text place
HasCause NotUtf8 text = (length text ≤ most_bytes) × ¬ (IsUtf8 text)
HasCause TooLong text = most_bytes < length text
HasCause OutOfMemory text = ⊥

-- the answer to a text: its tokens, or the refusal whose cause it has
abbrev pub IsAnswer : List ℕ → Result (List Token) LexError → Type 0
IsAnswer text (Ok tokens) = IsLexed text tokens
IsAnswer text (Err refusal) = HasCause refusal text

-- a refusal is the answer; out of memory may come in place of any answer
abbrev pub Fails : {Y : Type 0} → LexError → Result Y LexError → Type 0
Fails OutOfMemory answer = Unit {0}
Fails refusal answer = answer ≡ Err refusal

-- What a call returned, seen through `view`, is this answer, unless memory ran out.
abbrev pub Gives : {X Y : Type 0} → (X → Y) → Result X LexError → Result Y LexError → Type 0
Gives view (Ok found) answer = answer ≡ Ok (view found)
Gives view (Err refusal) answer = Fails refusal answer
