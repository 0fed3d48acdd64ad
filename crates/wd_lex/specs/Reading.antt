-- Reading a text from left to right, a piece at a time. Contracts of private functions cite it. That it reads exactly the pieces, and
-- refuses exactly where there is a cause, is proved in proofs/SoundReading and proofs/CompleteReading.
use Rattle.std.specs.Prelude.{ℕ, ◌+◌, ◌-◌, Bool, false, not, ◌&&◌, if◌then◌else◌, ◌==◌, nat_eq, nat_le, codes, List, [], ◌∷◌, ◌++◌, length, take, drop, slice_index, Option, Some, None, is_some, Result, Ok, Err}
use Rattle.std.specs.List.{prefix_len, take_while, starts_with}
use Rattle.std.specs.Option.{option_map}
use Rattle.std.specs.Str.Parse.{digits_value}
use Rattle.wd_lex.specs.declared.characters.Class.{Class}
use Rattle.wd_lex.specs.declared.characters.Class.TheVariants as class
use Rattle.wd_lex.specs.declared.pieces.Kind.{Kind}
use Rattle.wd_lex.specs.declared.pieces.Kind.TheVariants as kind
use Rattle.wd_lex.specs.declared.error.LexError.{LexError}
use Rattle.wd_lex.specs.declared.error.LexError.TheVariants.{UnknownCharacter, TextNotClosed, NameNotClosed, BadNumber, CommentNotClosed}
use Rattle.wd_lex.specs.declared.token.TokenKind.{TokenKind}
use Rattle.wd_lex.specs.Characters.{is_blank, is_line_end, is_digit, begins_word, goes_on_word, spoils_number, single_quote, double_quote}
use Rattle.wd_lex.specs.Terminals.{symbols, lookup}
use Rattle.wd_lex.specs.Pieces.{Piece, Blanks, LineComment, BlockComment, Word, Number, QuotedName, QuotedText, Symbol, kind_of, greatest_number}

-- what a run of a class is made of
abbrev pub is_in : Class → ℕ → Bool
is_in class.Blank b = is_blank b
is_in class.Line b = not (is_line_end b)
is_in class.Word b = goes_on_word b
is_in class.Digit b = is_digit b

-- what follows the longest front that passes
abbrev pub drop_while : (ℕ → Bool) → List ℕ → List ℕ
drop_while p bytes = drop (prefix_len p bytes) bytes

-- the kind of the piece that begins there
unfoldable pub kind_at : List ℕ → Kind
kind_at bytes =
    let b = slice_index bytes 0 in
    if begins_word b then kind.Word
    else (if is_digit b then kind.Number
    else (if is_blank b then kind.Blanks
    else (if b == double_quote then kind.QuotedName
    else (if b == single_quote then kind.QuotedText
    else (if starts_with nat_eq bytes (codes "--") then kind.LineComment
    else (if starts_with nat_eq bytes (codes "/*") then kind.BlockComment
    else kind.Symbol))))))

-- the place after the `*/` that closes a comment, `depth` comments deep in it, for bytes that begin at a place
abbrev pub comment_end : ℕ → ℕ → List ℕ → Option ℕ
comment_end depth at [] = None
comment_end depth at (b ∷ []) = None
comment_end depth at (b ∷ c ∷ bytes) =
    if b == 42 && c == 47 then (if depth == 0 then Some (at + 2) else comment_end (depth - 1) (at + 2) bytes)
    else (if b == 47 && c == 42 then comment_end (depth + 1) (at + 2) bytes else comment_end depth (at + 1) (c ∷ bytes))

-- a found inside, with these bytes before it
abbrev pub following : List ℕ → Option (List ℕ × List ℕ) → Option (List ℕ × List ℕ)
following front found = option_map (λ x. (front ++ x.0, x.1)) found

-- the inside of quotes, and what follows the quote that closes it
abbrev pub unquote : ℕ → List ℕ → Option (List ℕ × List ℕ)
unquote quote [] = None
unquote quote (b ∷ []) = if b == quote then Some ([], []) else None
unquote quote (b ∷ c ∷ bytes) =
    if b == quote then (if c == quote then following (b ∷ []) (unquote quote bytes) else Some ([], c ∷ bytes))
    else following (b ∷ []) (unquote quote (c ∷ bytes))

-- the longest symbol there, or one byte
abbrev pub symbol_front : List ℕ → List ℕ
symbol_front bytes = if is_some (lookup symbols (take 2 bytes)) then take 2 bytes else take 1 bytes

-- whether a letter, `_` or `.` comes first
abbrev pub is_spoiled : List ℕ → Bool
is_spoiled [] = false
is_spoiled (b ∷ bytes) = spoils_number b

-- the number that digits write, if it is not too large
abbrev pub number_value : List ℕ → Option ℕ
number_value digits = if nat_le (digits_value 10 digits) greatest_number then Some (digits_value 10 digits) else None

-- whether digits and what follows them are a number
abbrev pub is_good_number : List ℕ → List ℕ → Bool
is_good_number digits rest = nat_le (digits_value 10 digits) greatest_number && not (is_spoiled rest)

-- a piece and what follows it, or a refusal at the place
abbrev pub Reading : Type 0
Reading = Result (Piece × List ℕ) LexError

-- a block comment, by the place after it
abbrev pub read_comment : ℕ → List ℕ → Option ℕ → Reading
read_comment place bytes None = Err (CommentNotClosed place)
read_comment place bytes (Some end) = Ok (BlockComment (drop 2 (take end bytes)), drop end bytes)

-- a quoted name, by what its quotes hold and what follows
abbrev pub read_name : ℕ → Option (List ℕ × List ℕ) → Reading
read_name place None = Err (NameNotClosed place)
read_name place (Some found) = if length found.0 == 0 then Err (NameNotClosed place) else Ok (QuotedName found.0, found.1)

-- a text, by what its quotes hold and what follows
abbrev pub read_text : ℕ → Option (List ℕ × List ℕ) → Reading
read_text place None = Err (TextNotClosed place)
read_text place (Some found) = Ok (QuotedText found.0, found.1)

-- a number, by its digits and what follows
abbrev pub read_number : ℕ → List ℕ → List ℕ → Reading
read_number place digits rest = if is_good_number digits rest then Ok (Number digits, rest) else Err (BadNumber place)

-- a symbol, by the longest there
abbrev pub read_symbol : ℕ → List ℕ → List ℕ → Reading
read_symbol place front bytes = if is_some (lookup symbols front) then Ok (Symbol front, drop (length front) bytes) else Err (UnknownCharacter place)

-- the piece of that kind at the front
unfoldable pub read_as : Kind → ℕ → List ℕ → Reading
read_as kind.Blanks place bytes = Ok (Blanks (take_while is_blank bytes), drop_while is_blank bytes)
read_as kind.LineComment place bytes = let p = is_in class.Line in Ok (LineComment (drop 2 (take_while p bytes)), drop_while p bytes)
read_as kind.BlockComment place bytes = read_comment place bytes (comment_end 0 2 (drop 2 bytes))
read_as kind.Word place bytes = Ok (Word (take_while goes_on_word bytes), drop_while goes_on_word bytes)
read_as kind.Number place bytes = read_number place (take_while is_digit bytes) (drop_while is_digit bytes)
read_as kind.QuotedName place bytes = read_name place (unquote double_quote (drop 1 bytes))
read_as kind.QuotedText place bytes = read_text place (unquote single_quote (drop 1 bytes))
read_as kind.Symbol place bytes = read_symbol place (symbol_front bytes) bytes

-- the piece at the front
unfoldable pub piece_at : ℕ → List ℕ → Reading
piece_at place bytes = read_as (kind_at bytes) place bytes

-- the token that a piece is, and what follows
abbrev pub as_token : Reading → Result (Option TokenKind × List ℕ) LexError
as_token (Ok found) = Ok (kind_of found.0, found.1)
as_token (Err e) = Err e
