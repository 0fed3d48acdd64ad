-- Going through the white space and the comments with which a text begins.
use Rattle.std.proofs.Common.{◌≡◌, ◌∙◌, ℕ, ◌+◌, Bool, true, false, ◌&&◌, ◌||◌, eqb, nat_eq, List, [], ◌∷◌, ◌++◌, length, take, drop, codes, Option, Some, None, ⊎_elim, refl, sym, ap, ap₂, subst, arith, append_assoc, length-append, eqb-true}
use Rattle.std.proofs.lemmas.Bool.{cases_Bool, both_ways}
use Rattle.std.proofs.lemmas.List.{take_at, drop_at, drop-drop}
use Rattle.std.proofs.lemmas.List.Folds.{list_all-append, list_any-append}
use Rattle.std.specs.List.{list_any, starts_with}
use Rattle.wd_lex.specs.Characters.{is_blank, is_line_end}
use Rattle.wd_lex.specs.Lexed.{start_of}
use Rattle.wd_lex.specs.Pieces.{Piece, Blanks, LineComment, BlockComment, Word, Number, QuotedName, QuotedText, Symbol, spelling, spellings, IsPiece, ArePieces}
use Rattle.wd_lex.proofs.TextLaws.{ArePieces_push, spellings_push}
use Rattle.wd_excuse.specs.Gaps.{is_gap, HasGap, HasNoGap}
use Rattle.wd_excuse.specs.Remarks.{Said, or_else, piece_says, bytes_say, line_says, first_said, BeginsWithGaps, IsRemark}

-- ---- what a piece says, by its bytes

blank_is_no_dash : (b : ℕ) (bytes : List ℕ) → is_blank b ≡ true → starts_with nat_eq (b ∷ bytes) (codes "--") ≡ false
blank_is_no_dash b bytes e = ⊎_elim (λ dash. absurd (let is = eqb-true 45 b dash in both_ways (is_blank 45) refl (ap is_blank is ∙ e))) (λ other. rw other refl) (cases_Bool (eqb 45 b))

pub says_by_bytes : (is_above : Bool) (place : ℕ) (gap : Piece) → IsPiece gap → is_gap gap ≡ true → piece_says is_above place gap ≡ bytes_say is_above place (spelling gap)
says_by_bytes is_above place (Blanks []) is g = absurd is
says_by_bytes is_above place (Blanks (b ∷ bytes)) is g = rw (blank_is_no_dash b bytes is.0) refl
says_by_bytes is_above place (LineComment line) is g = ap (λ n. line_says is_above place n line) (let e : 2 + length line ≡ length (codes "--" ++ line) = omega arith in e)
says_by_bytes is_above place (BlockComment bytes) is g = refl
says_by_bytes is_above place (Word bytes) is g = absurd cc
says_by_bytes is_above place (Number digits) is g = absurd cc
says_by_bytes is_above place (QuotedName name) is g = absurd cc
says_by_bytes is_above place (QuotedText text) is g = absurd cc
says_by_bytes is_above place (Symbol bytes) is g = absurd cc

-- ---- one piece more

or_else-assoc : (a b c : Option Said) → or_else (or_else a b) c ≡ or_else a (or_else b c)
or_else-assoc None b c = refl
or_else-assoc (Some s) b c = refl

or_assoc : (a b c : Bool) → (a || (b || c)) ≡ ((a || b) || c)
or_assoc true b c = refl
or_assoc false b c = refl

or_false : (a : Bool) → (a || false) ≡ a
or_false true = refl
or_false false = refl

or_else-none : (a : Option Said) → or_else a None ≡ a
or_else-none None = refl
or_else-none (Some s) = refl

said_more : (is_above : Bool) (place : ℕ) (pieces : List Piece) (piece : Piece)
    → first_said is_above place (pieces ++ piece ∷ []) ≡ or_else (first_said is_above place pieces) (piece_says (is_above || list_any is_line_end (spellings pieces)) (place + length (spellings pieces)) piece)
said_more is_above place [] piece =
    or_else-none (piece_says is_above place piece) ∙ ap₂ (λ a p. piece_says a p piece) (sym (or_false is_above)) (let e : place ≡ place + 0 = omega arith in e)
said_more is_above place (first ∷ pieces) piece =
    let above = is_above || list_any is_line_end (spelling first) in
    let following = place + length (spelling first) in
    let ends : (above || list_any is_line_end (spellings pieces)) ≡ (is_above || list_any is_line_end (spelling first ++ spellings pieces)) =
    sym (or_assoc is_above _ _) ∙ ap (λ t. is_above || t) (sym (list_any-append is_line_end (spelling first) (spellings pieces))) in
    let there : following + length (spellings pieces) ≡ place + length (spelling first ++ spellings pieces) = omega (arith, length-append (spelling first) (spellings pieces)) in
    ap (or_else (piece_says is_above place first)) (said_more above following pieces piece ∙ ap₂ (λ a p. or_else (first_said above following pieces) (piece_says a p piece)) ends there)
    ∙ sym (or_else-assoc (piece_says is_above place first) (first_said above following pieces) _)

-- ---- how far a text has been gone through: so far nothing is said

pub record IsSilentUpTo (text : List ℕ) (is_first : Bool) (at : ℕ) (is_above : Bool) : Type 0 where
  pub pieces : List Piece
  pub begins : BeginsWithGaps text pieces (drop at text)
  pub there : at ≡ start_of text + length (spellings pieces)
  pub above : is_above ≡ (is_first || list_any is_line_end (spellings pieces))
  pub silent : first_said is_first (start_of text) pieces ≡ None

pub none_yet : (text : List ℕ) (is_first : Bool) (at : ℕ) → at ≡ start_of text → IsSilentUpTo text is_first at is_first
none_yet text is_first at e = record {
  pieces = [];
  begins = record { cut = record { whole = ap (λ n. drop n text) (sym e); each = tt }; each = refl };
  there = omega (arith, e);
  above = sym (or_false is_first);
  silent = refl;
}

-- the bytes of what stands there
pub gap_bytes : (bytes : List ℕ) (len n : ℕ) (h : HasGap bytes len) → n ≡ len → take n bytes ≡ spelling h.gap
gap_bytes bytes len n h e = ap₂ take e h.whole ∙ take_at (spelling h.gap) h.rest len (sym h.long)

begins_more : (text : List ℕ) (is_first : Bool) (at : ℕ) (is_above : Bool) (len : ℕ) (s : IsSilentUpTo text is_first at is_above) (h : HasGap (drop at text) len)
    → BeginsWithGaps text (s.pieces ++ h.gap ∷ []) (drop (at + len) text)
begins_more text is_first at is_above len s h =
    let after : drop (at + len) text ≡ h.rest = sym (drop-drop len at text) ∙ ap (drop len) h.whole ∙ drop_at (spelling h.gap) h.rest len (sym h.long) in
    rw after (record {
      cut = record {
        whole = s.begins.cut.whole ∙ ap (λ l. spellings s.pieces ++ l) h.whole ∙ sym (append_assoc (spellings s.pieces) (spelling h.gap) h.rest) ∙ ap (λ l. l ++ h.rest) (sym (spellings_push s.pieces h.gap));
        each = ArePieces_push s.pieces h.gap h.rest (subst (ArePieces s.pieces) h.whole s.begins.cut.each) h.stands;
      };
      each = list_all-append is_gap s.pieces (h.gap ∷ []) ∙ ap₂ (λ a b. a && (b && true)) s.begins.each h.is;
    })

-- what is said with one piece more
said_then : (text : List ℕ) (is_first : Bool) (at : ℕ) (is_above : Bool) (len : ℕ) (s : IsSilentUpTo text is_first at is_above) (h : HasGap (drop at text) len)
    → first_said is_first (start_of text) (s.pieces ++ h.gap ∷ []) ≡ bytes_say is_above at (spelling h.gap)
said_then text is_first at is_above len s h =
    said_more is_first (start_of text) s.pieces h.gap
    ∙ ap (λ said. or_else said (piece_says (is_first || list_any is_line_end (spellings s.pieces)) (start_of text + length (spellings s.pieces)) h.gap)) s.silent
    ∙ ap₂ (λ a p. piece_says a p h.gap) (sym s.above) (sym s.there)
    ∙ says_by_bytes is_above at h.gap h.stands.is h.is

pub goes_on : (text : List ℕ) (is_first : Bool) (at : ℕ) (is_above : Bool) (len : ℕ) (gap : List ℕ) (after : ℕ) (later : Bool) → IsSilentUpTo text is_first at is_above → (h : HasGap (drop at text) len) → gap ≡ spelling h.gap
    → None ≡ bytes_say is_above at gap → after ≡ at + len → later ≡ (is_above || list_any is_line_end gap) → IsSilentUpTo text is_first after later
goes_on text is_first at is_above len gap after later s h is nothing e above = record {
  pieces = s.pieces ++ h.gap ∷ [];
  begins = subst (λ n. BeginsWithGaps text (s.pieces ++ h.gap ∷ []) (drop n text)) (sym e) (begins_more text is_first at is_above len s h);
  there = omega (arith, e, s.there, h.long, ap length (spellings_push s.pieces h.gap), length-append (spellings s.pieces) (spelling h.gap));
  above = above ∙ ap₂ (λ a bytes. a || list_any is_line_end bytes) s.above is ∙ sym (or_assoc is_first _ _)
      ∙ ap (λ t. is_first || t) (sym (list_any-append is_line_end (spellings s.pieces) (spelling h.gap)) ∙ ap (list_any is_line_end) (sym (spellings_push s.pieces h.gap)));
  silent = said_then text is_first at is_above len s h ∙ ap (bytes_say is_above at) (sym is) ∙ sym nothing;
}

pub says_here : (text : List ℕ) (is_first : Bool) (at : ℕ) (is_above : Bool) (len : ℕ) (gap : List ℕ) (said : Said) → IsSilentUpTo text is_first at is_above → (h : HasGap (drop at text) len) → gap ≡ spelling h.gap
    → Some said ≡ bytes_say is_above at gap → IsRemark text is_first (Some said)
says_here text is_first at is_above len gap said s h is told =
    (s.pieces ++ h.gap ∷ [], drop (at + len) text, begins_more text is_first at is_above len s h, said_then text is_first at is_above len s h ∙ ap (bytes_say is_above at) (sym is) ∙ sym told)

pub says_nothing : (text : List ℕ) (is_first : Bool) (at : ℕ) (is_above : Bool) → IsSilentUpTo text is_first at is_above → HasNoGap (drop at text) → IsRemark text is_first None
says_nothing text is_first at is_above s none = (s.pieces, drop at text, s.begins, none, s.silent)

-- ---- what the code knows of a step: the white space or comment at the front of what follows a place

pub there : (text bytes : List ℕ) (at len : ℕ) → bytes ≡ drop at text → HasGap bytes len → HasGap (drop at text) len
there text bytes at len e h = subst (λ l. HasGap l len) e h

-- a line that has ended stays so, and else it is this range that ends it
pub above_before : (is_above ends : Bool) → is_above ≡ true → is_above ≡ (is_above || ends)
above_before is_above ends e = rw e refl

pub above_now : (is_above ends later : Bool) → is_above ≡ false → later ≡ ends → later ≡ (is_above || ends)
above_now is_above ends later e is = rw e is
