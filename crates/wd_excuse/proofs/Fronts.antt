-- What stands at the front of bytes: white space, a comment, or neither.
use Rattle.std.proofs.Common.{◌≡◌, ◌∙◌, ℕ, ◌<◌, ◌≤◌, true, false, List, [], ◌∷◌, ◌++◌, length, take, drop, codes, nat_eq, slice_index, Option, Some, None, IfSome, MatchOption, Ok, ⊎_elim, refl, sym, ap, subst, arith, length-append, length-drop}
use Rattle.std.proofs.lemmas.Bool.{both_ways, cases_Bool}
use Rattle.std.specs.List.{prefix_len, take_while, starts_with}
use Rattle.wd_lex.specs.declared.pieces.Kind.TheVariants as kind
use Rattle.wd_lex.specs.declared.characters.Class.TheVariants as class
use Rattle.wd_lex.specs.Characters.{is_blank}
use Rattle.wd_lex.specs.Pieces.{Piece, Blanks, LineComment, BlockComment, Word, Number, QuotedName, QuotedText, Symbol, spelling, Stands}
use Rattle.wd_lex.specs.Reading.{kind_at, is_in, drop_while, comment_end, read_as, read_comment, piece_at}
use Rattle.wd_lex.proofs.RunFacts.{prefix_len_yes, prefix_len_no}
use Rattle.wd_lex.proofs.KindFacts.{piece_kind, kind_blanks, kind_line, kind_block, says_at, spelling_some, starts_two}
use Rattle.wd_lex.proofs.SoundReading.{IsFront, IsRead, piece_at_sound}
use Rattle.wd_lex.proofs.CompleteReading.{piece_at-spelling, kind_at-piece}
use Rattle.wd_excuse.specs.Gaps.{is_gap, HasGap, HasNoGap}

-- bytes that begin with two others are some
some_two : (bytes : List ℕ) (first second : ℕ) → starts_with nat_eq bytes (first ∷ second ∷ []) ≡ true → 0 < length bytes
some_two bytes first second e = omega (arith, ap length (starts_two bytes first second e))

-- what is read stands there
front_of : (bytes : List ℕ) (gap : Piece) (rest : List ℕ) → 0 < length bytes → piece_at 0 bytes ≡ Ok (gap, rest) → IsFront bytes gap rest
front_of [] gap rest some read = absurd (omega arith)
front_of (b ∷ bytes) gap rest some read = subst (IsRead 0 (b ∷ bytes)) read (piece_at_sound 0 b bytes)

-- the length of what is read, by that of the rest
pub gap_by : (bytes : List ℕ) (gap : Piece) (len : ℕ) → 0 < length bytes → len ≤ length bytes → piece_at 0 bytes ≡ Ok (gap, drop len bytes) → is_gap gap ≡ true → HasGap bytes len
gap_by bytes gap len some within read is =
    let front = front_of bytes gap (drop len bytes) some read in
    record {
      gap = gap;
      rest = drop len bytes;
      whole = front.whole;
      stands = front.stands;
      is = is;
      long = omega (arith, ap length front.whole, length-append (spelling gap) (drop len bytes), length-drop len bytes);
    }

pub gap_some : (bytes : List ℕ) (len : ℕ) → HasGap bytes len → 0 < len
gap_some bytes len h = omega (arith, h.long, spelling_some h.gap h.stands.is)

-- ---- line comments

line_read : (bytes : List ℕ) → starts_with nat_eq bytes (codes "--") ≡ true → let p = is_in class.Line in piece_at 0 bytes ≡ Ok (LineComment (drop 2 (take_while p bytes)), drop_while p bytes)
unfolding piece_at read_as
line_read bytes starts = ap (λ k. read_as k 0 bytes) (ap kind_at (starts_two bytes 45 45 starts) ∙ kind_line (drop 2 bytes))

pub line_gap : (bytes : List ℕ) (len : ℕ) → starts_with nat_eq bytes (codes "--") ≡ true → len ≡ prefix_len (is_in class.Line) bytes → len ≤ length bytes → HasGap bytes len
line_gap bytes len starts is within =
    let p = is_in class.Line in
    let gap = LineComment (drop 2 (take_while p bytes)) in
    gap_by bytes gap len (some_two bytes 45 45 starts) within (line_read bytes starts ∙ ap (λ n. Ok (gap, drop n bytes)) (sym is)) refl

-- ---- block comments

block_read : (bytes : List ℕ) → starts_with nat_eq bytes (codes "/*") ≡ true → piece_at 0 bytes ≡ read_comment 0 bytes (comment_end 0 2 (drop 2 bytes))
unfolding piece_at read_as
block_read bytes starts = ap (λ k. read_as k 0 bytes) (ap kind_at (starts_two bytes 47 42 starts) ∙ kind_block (drop 2 bytes))

-- what stands first is read
read_there : (bytes : List ℕ) (gap : Piece) (rest : List ℕ) → Stands gap rest → bytes ≡ spelling gap ++ rest → piece_at 0 bytes ≡ Ok (gap, rest)
read_there bytes gap rest stands whole = ap (piece_at 0) whole ∙ piece_at-spelling 0 gap rest stands

pub block_gap : (bytes : List ℕ) (len : ℕ) → starts_with nat_eq bytes (codes "/*") ≡ true → Some len ≡ comment_end 0 2 (drop 2 bytes) → len ≤ length bytes → HasGap bytes len
block_gap bytes len starts found within =
    gap_by bytes (BlockComment (drop 2 (take len bytes))) len (some_two bytes 47 42 starts) within (block_read bytes starts ∙ ap (read_comment 0 bytes) (sym found)) refl

pub block_none : (bytes : List ℕ) → starts_with nat_eq bytes (codes "/*") ≡ true → None ≡ comment_end 0 2 (drop 2 bytes) → HasNoGap bytes
block_none bytes starts found gap rest is stands whole =
    let known = sym (read_there bytes gap rest stands whole) ∙ block_read bytes starts ∙ ap (read_comment 0 bytes) (sym found) in cc

-- ---- white space

blank_first : (b : ℕ) (bytes : List ℕ) → 0 < prefix_len is_blank (b ∷ bytes) → is_blank b ≡ true
blank_first b bytes some = ⊎_elim (λ e. e) (λ e. absurd (omega (arith, some, prefix_len_no is_blank b bytes e))) (cases_Bool (is_blank b))

blanks_read : (b : ℕ) (bytes : List ℕ) → is_blank b ≡ true → piece_at 0 (b ∷ bytes) ≡ Ok (Blanks (take_while is_blank (b ∷ bytes)), drop_while is_blank (b ∷ bytes))
unfolding piece_at read_as
blanks_read b bytes e = ap (λ k. read_as k 0 (b ∷ bytes)) (kind_blanks b bytes e)

pub blanks_gap : (bytes : List ℕ) (len : ℕ) → len ≡ prefix_len is_blank bytes → 0 < len → len ≤ length bytes → HasGap bytes len
blanks_gap [] len is some within = absurd (omega arith)
blanks_gap (b ∷ bytes) len is some within =
    let white = blank_first b bytes (omega (arith, is, some)) in
    let gap = Blanks (take_while is_blank (b ∷ bytes)) in
    gap_by (b ∷ bytes) gap len (omega arith) within (blanks_read b bytes white ∙ ap (λ n. Ok (gap, drop n (b ∷ bytes))) (sym is)) refl

-- ---- neither

no_blank : (bytes : List ℕ) → prefix_len is_blank bytes ≡ 0 → is_blank (slice_index bytes 0) ≡ true → ⊥
no_blank [] none e = both_ways (is_blank 0) refl e
no_blank (b ∷ bytes) none e = absurd (omega (arith, none, prefix_len_yes is_blank b bytes e))

pub no_gap : (bytes : List ℕ) → starts_with nat_eq bytes (codes "--") ≡ false → starts_with nat_eq bytes (codes "/*") ≡ false → prefix_len is_blank bytes ≡ 0 → HasNoGap bytes
no_gap bytes no_line no_block no_white gap rest is stands whole = by_kind gap is (sym (ap kind_at whole ∙ kind_at-piece gap rest stands))
  where
    by_kind : (piece : Piece) → is_gap piece ≡ true → piece_kind piece ≡ kind_at bytes → ⊥
    by_kind (Blanks white) is told = no_blank bytes no_white (says_at kind.Blanks bytes told)
    by_kind (LineComment line) is told = both_ways _ no_line (says_at kind.LineComment bytes told)
    by_kind (BlockComment inside) is told = both_ways _ no_block (says_at kind.BlockComment bytes told)
    by_kind (Word word) is told = absurd cc
    by_kind (Number digits) is told = absurd cc
    by_kind (QuotedName name) is told = absurd cc
    by_kind (QuotedText text) is told = absurd cc
    by_kind (Symbol symbol) is told = absurd cc

-- ---- what a search for the end of a block comment gives

pub block_found : (bytes : List ℕ) (found : Option ℕ) → starts_with nat_eq bytes (codes "/*") ≡ true → found ≡ comment_end 0 2 (drop 2 bytes) → IfSome found (λ len. len ≤ length bytes)
    → MatchOption found (HasNoGap bytes) (HasGap bytes)
block_found bytes None starts is within = block_none bytes starts is
block_found bytes (Some len) starts is within = block_gap bytes len starts is within

pub found_within : (bytes : List ℕ) (found : Option ℕ) → MatchOption found (HasNoGap bytes) (HasGap bytes) → IfSome found (λ len. len ≤ length bytes) → IfSome found (λ len. (0 < len) × (len ≤ length bytes))
found_within bytes None gap within = tt
found_within bytes (Some len) gap within = (gap_some bytes len gap, within)
