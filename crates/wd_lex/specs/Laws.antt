-- Laws of texts and their tokens, over the definitions alone.
use Rattle.std.specs.Prelude.{◌≡◌, ℕ, ◌≤◌, codes, List, ◌++◌, length, Result}
use Rattle.wd_lex.specs.declared.error.LexError.{LexError}
use Rattle.wd_lex.specs.declared.token.Token.{Token}
use Rattle.wd_lex.specs.Pieces.{Piece, LineComment, BlockComment, spelling, IsPiece, Stands}
use Rattle.wd_lex.specs.Lexed.{IsLexed}
use Rattle.wd_lex.specs.Causes.{IsAnswer}

-- A text has at most one list of tokens.
abbrev pub HasOneListOfTokens : Type 0
HasOneListOfTokens = (text : List ℕ) (first second : List Token) → IsLexed text first → IsLexed text second → first ≡ second

-- A text has at most one answer: no two lists of tokens, no two refusals, and no list of tokens beside a refusal.
abbrev pub HasOneAnswer : Type 0
HasOneAnswer = (text : List ℕ) (first second : Result (List Token) LexError) → IsAnswer text first → IsAnswer text second → first ≡ second

-- Each text has an answer: it is cut into pieces to its end, or up to a cause.
abbrev pub HasAnswer : Type 0
HasAnswer = (text : List ℕ) → (answer : Result (List Token) LexError) × IsAnswer text answer

-- No longer front of the bytes that a piece begins is a piece.
abbrev pub IsLongestFront : Type 0
IsLongestFront = (piece longer : Piece) (rest more : List ℕ) → Stands piece rest → IsPiece longer → spelling piece ++ rest ≡ spelling longer ++ more → length (spelling longer) ≤ length (spelling piece)

-- Where `--` or `/*` begins a piece, the piece is a comment.
abbrev pub CommentsComeFirst : Type 0
CommentsComeFirst = (piece : Piece) (rest more : List ℕ) → Stands piece rest
    → (spelling piece ++ rest ≡ codes "--" ++ more → (line : List ℕ) × (piece ≡ LineComment line))
    × (spelling piece ++ rest ≡ codes "/*" ++ more → (inside : List ℕ) × (piece ≡ BlockComment inside))
