-- White space and comments, the pieces of a text that are no tokens.
use Rattle.std.specs.Prelude.{◌≡◌, ◌≢◌, ℕ, Bool, true, false, List, ◌++◌, length}
use Rattle.wd_lex.specs.Pieces.{Piece, Blanks, LineComment, BlockComment, Word, Number, QuotedName, QuotedText, Symbol, spelling, Stands}

-- white space, or a comment
abbrev pub is_gap : Piece → Bool
is_gap (Blanks bytes) = true
is_gap (LineComment line) = true
is_gap (BlockComment bytes) = true
is_gap (Word bytes) = false
is_gap (Number digits) = false
is_gap (QuotedName name) = false
is_gap (QuotedText text) = false
is_gap (Symbol bytes) = false

-- the bytes begin with white space or a comment of this length
pub record HasGap (bytes : List ℕ) (len : ℕ) : Type 0 where
  pub gap : Piece
  pub rest : List ℕ
  pub whole : bytes ≡ spelling gap ++ rest
  pub stands : Stands gap rest
  pub is : is_gap gap ≡ true
  pub long : len ≡ length (spelling gap)

-- the bytes begin with no white space and no comment
abbrev pub HasNoGap : List ℕ → Type 0
HasNoGap bytes = (gap : Piece) (rest : List ℕ) → is_gap gap ≡ true → Stands gap rest → bytes ≢ spelling gap ++ rest
