-- The remark above a statement.
use Rattle.std.specs.Prelude.{◌≡◌, ℕ, ◌+◌, Bool, true, false, ◌||◌, List, [], ◌∷◌, length, drop, codes, nat_eq, Option, Some, None, option_map, if◌then◌else◌}
use Rattle.std.specs.List.{list_all, list_any, starts_with}
use Rattle.wd_lex.specs.declared.token.Span.{Span}
use Rattle.wd_lex.specs.Characters.{is_line_end}
use Rattle.wd_lex.specs.Lexed.{IsCut, start_of}
use Rattle.wd_lex.specs.Pieces.{Piece, LineComment, spelling}
use Rattle.wd_excuse.specs.declared.remark.Remark.{Remark}
use Rattle.wd_excuse.specs.declared.remark.Remark.TheVariants as remark
use Rattle.wd_excuse.specs.Gaps.{is_gap, HasNoGap}
use Rattle.wd_excuse.specs.Lines.{words_to_program, reason_in}

-- where the comment is that is meant for wdreport, and the reason that it gives, or that it excuses nothing
pub data Said : Type 0 where
  Reason : List ℕ → Span → Said
  Unread : Span → Said

-- what a remark of the code says
abbrev pub seen : Remark → Said
seen (remark.Excused reason comment) = Reason reason.now comment
seen (remark.Unread comment) = Unread comment

-- where the comment is
abbrev pub comment_of : Said → Span
comment_of (Reason reason comment) = comment
comment_of (Unread comment) = comment

-- a reason counts only in a comment above the statement
abbrev pub reason_says : Bool → Span → Option (List ℕ) → Said
reason_says true span (Some reason) = Reason reason span
reason_says true span None = Unread span
reason_says false span reason = Unread span

-- what words to wdreport say, in a comment at this place
abbrev pub words_say : Bool → Span → List ℕ → Said
words_say is_above span words = reason_says is_above span (reason_in words)

-- what a line comment of this length at a place says, by what follows its `--`
abbrev pub line_says : Bool → (place len : ℕ) → List ℕ → Option Said
line_says is_above place len line = option_map (words_say is_above (record { start = place; end = place + len })) (words_to_program line)

-- what a piece at a place says: only a line comment says something
abbrev pub piece_says : Bool → ℕ → Piece → Option Said
piece_says is_above place (LineComment line) = line_says is_above place (2 + length line) line
piece_says is_above place _ = None

-- what white space or a comment at a place says, by its bytes
abbrev pub bytes_say : Bool → ℕ → List ℕ → Option Said
bytes_say is_above place bytes = if starts_with nat_eq bytes (codes "--") then line_says is_above place (length bytes) (drop 2 bytes) else None

-- the first of two remarks
abbrev pub or_else : Option Said → Option Said → Option Said
or_else None other = other
or_else (Some said) other = Some said

-- What pieces from a place on say first. They are above the statement as soon as a line has ended, or if no other statement comes
-- before it.
abbrev pub first_said : (is_above : Bool) → (place : ℕ) → List Piece → Option Said
first_said is_above place [] = None
first_said is_above place (piece ∷ pieces) =
    or_else (piece_says is_above place piece) (first_said (is_above || list_any is_line_end (spelling piece)) (place + length (spelling piece)) pieces)

-- a text begins with white space and comments, before the rest
pub record BeginsWithGaps (text : List ℕ) (gaps : List Piece) (rest : List ℕ) : Type 0 where
  pub cut : IsCut text gaps rest
  pub each : list_all is_gap gaps ≡ true

-- The remark of a statement's text: what the white space and the comments say first with which the text begins. There is none where all
-- of them, up to the first token, say nothing.
abbrev pub IsRemark : List ℕ → (is_first : Bool) → Option Said → Type 0
IsRemark text is_first (Some said) =
    (gaps : List Piece) × (rest : List ℕ) × BeginsWithGaps text gaps rest × (first_said is_first (start_of text) gaps ≡ Some said)
IsRemark text is_first None =
    (gaps : List Piece) × (rest : List ℕ) × BeginsWithGaps text gaps rest × HasNoGap rest × (first_said is_first (start_of text) gaps ≡ None)

-- a text has at most one remark
abbrev pub HasOneRemark : Type 0
HasOneRemark = (text : List ℕ) (is_first : Bool) (a b : Option Said) → IsRemark text is_first a → IsRemark text is_first b → a ≡ b
