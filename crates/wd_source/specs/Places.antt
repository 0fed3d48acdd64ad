-- Lines and columns of a text.
use Rattle.std.specs.Prelude.{◌≡◌, ◌≢◌, ◌⊎◌, ℕ, ◌+◌, ◌-◌, ◌<◌, ◌≤◌, Bool, not, ◌&&◌, nat_le, nat_lt, ◌==◌, List, length, take, slice_index, slice_range, count_by}
use Rattle.wd_lex.specs.declared.token.Span.{Span}
use Rattle.wd_source.specs.declared.place.Position.{Position}

-- the code of a line feed, which ends a line
abbrev pub line_feed : ℕ
line_feed = 10

-- a byte with which a character begins: not one that continues a character in UTF-8
abbrev pub begins_character : ℕ → Bool
begins_character b = not (nat_le 128 b && nat_lt b 192)

-- the line of a byte begins there: after a line feed or at the text's start, and no line feed is between
pub record IsLineStart (text : List ℕ) (place start : ℕ) : Type 0 where
  pub before : start ≤ place
  pub whole : (k : ℕ) → start ≤ k → k < place → slice_index text k ≢ line_feed
  pub begins : (start ≡ 0) ⊎ ((0 < start) × (slice_index text (start - 1) ≡ line_feed))

-- the line of a byte ends there: at a line feed or at the text's end, and no line feed is between
pub record IsLineEnd (text : List ℕ) (place end : ℕ) : Type 0 where
  pub after : place ≤ end
  pub whole : (k : ℕ) → place ≤ k → k < end → slice_index text k ≢ line_feed
  pub ends : (end ≡ length text) ⊎ ((end < length text) × (slice_index text end ≡ line_feed))

-- the line around a byte
pub record IsLine (text : List ℕ) (place : ℕ) (line : Span) : Type 0 where
  pub starts : IsLineStart text place line.start
  pub ends : IsLineEnd text place line.end

-- lines are counted from 1 by the line feeds before a byte, columns from 1 by the characters that begin in its line before it
pub record IsPosition (text : List ℕ) (place : ℕ) (position : Position) : Type 0 where
  pub start : ℕ
  pub is_start : IsLineStart text place start
  pub line : position.line ≡ 1 + count_by (λ b. b == line_feed) (take place text)
  pub column : position.column ≡ 1 + count_by begins_character (slice_range text start place)
