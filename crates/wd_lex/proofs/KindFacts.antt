-- The kind of a piece is told by its first two bytes.
use Rattle.std.proofs.Common.{◌≡◌, ℕ, ◌<◌, Bool, true, false, ◌&&◌, ◌||◌, eqb, nat_eq, List, [], ◌∷◌, ◌++◌, length, drop, codes, slice_index, ◌==◌, refl, sym, ap₂, ◌∙◌, subst, arith}
use Rattle.std.proofs.lemmas.Bool.{cond-true, cond-false, cond_both, eqb-true, and_parts, or_from}
use Rattle.std.proofs.lemmas.Bool.Decides.{nat_tests}
use Rattle.std.specs.List.{starts_with}
use Rattle.wd_lex.specs.declared.pieces.Kind.{Kind}
use Rattle.wd_lex.specs.declared.pieces.Kind.TheVariants as kind
use Rattle.wd_lex.specs.Characters.{is_blank, is_digit, begins_word, goes_on_word, single_quote, double_quote}
use Rattle.wd_lex.specs.Terminals.{symbols}
use Rattle.wd_lex.specs.Pieces.{Piece, Blanks, LineComment, BlockComment, Word, Number, QuotedName, QuotedText, Symbol, spelling, IsPiece}
use Rattle.wd_lex.specs.Reading.{kind_at}
use Rattle.wd_lex.proofs.SymbolFacts.{each_spelling, symbol_short}

abbrev pub piece_kind : Piece → Kind
piece_kind (Blanks bytes) = kind.Blanks
piece_kind (LineComment line) = kind.LineComment
piece_kind (BlockComment bytes) = kind.BlockComment
piece_kind (Word bytes) = kind.Word
piece_kind (Number digits) = kind.Number
piece_kind (QuotedName name) = kind.QuotedName
piece_kind (QuotedText text) = kind.QuotedText
piece_kind (Symbol bytes) = kind.Symbol

-- ---- classes of characters that exclude each other

pub digit_no_word : (b : ℕ) → is_digit b ≡ true → begins_word b ≡ false
digit_no_word b e = grind (arith, nat_tests)

pub blank_no_word : (b : ℕ) → is_blank b ≡ true → begins_word b ≡ false
blank_no_word b e = grind (arith, nat_tests)

pub blank_no_digit : (b : ℕ) → is_blank b ≡ true → is_digit b ≡ false
blank_no_digit b e = grind (arith, nat_tests)

pub word_goes_on : (b : ℕ) → begins_word b ≡ true → goes_on_word b ≡ true
word_goes_on b e = grind (arith, nat_tests)

-- ---- the kind, from the first bytes

pub kind_word : (b : ℕ) (bytes : List ℕ) → begins_word b ≡ true → kind_at (b ∷ bytes) ≡ kind.Word
unfolding kind_at
kind_word b bytes e = cond-true (begins_word b) _ _ e

pub kind_number : (b : ℕ) (bytes : List ℕ) → is_digit b ≡ true → kind_at (b ∷ bytes) ≡ kind.Number
unfolding kind_at
kind_number b bytes e = cond-false (begins_word b) _ _ (digit_no_word b e) ∙ cond-true (is_digit b) _ _ e

pub kind_blanks : (b : ℕ) (bytes : List ℕ) → is_blank b ≡ true → kind_at (b ∷ bytes) ≡ kind.Blanks
unfolding kind_at
kind_blanks b bytes e = cond-false (begins_word b) _ _ (blank_no_word b e) ∙ cond-false (is_digit b) _ _ (blank_no_digit b e) ∙ cond-true (is_blank b) _ _ e

pub kind_name : (bytes : List ℕ) → kind_at (double_quote ∷ bytes) ≡ kind.QuotedName
unfolding kind_at
kind_name bytes = refl

pub kind_text : (bytes : List ℕ) → kind_at (single_quote ∷ bytes) ≡ kind.QuotedText
unfolding kind_at
kind_text bytes = refl

pub kind_line : (bytes : List ℕ) → kind_at (codes "--" ++ bytes) ≡ kind.LineComment
unfolding kind_at
kind_line bytes = refl

pub kind_block : (bytes : List ℕ) → kind_at (codes "/*" ++ bytes) ≡ kind.BlockComment
unfolding kind_at
kind_block bytes = refl

-- a piece alone
pub kind_at-spelling : (piece : Piece) → IsPiece piece → kind_at (spelling piece) ≡ piece_kind piece
unfolding kind_at
kind_at-spelling (Blanks []) is = absurd is
kind_at-spelling (Blanks (b ∷ bytes)) is = kind_blanks b bytes is.0
kind_at-spelling (LineComment line) is = refl
kind_at-spelling (BlockComment bytes) is = refl
kind_at-spelling (Word []) is = absurd is
kind_at-spelling (Word (b ∷ bytes)) is = kind_word b bytes is.0
kind_at-spelling (Number []) is = absurd is
kind_at-spelling (Number (b ∷ bytes)) is = kind_number b bytes is.0
kind_at-spelling (QuotedName name) is = refl
kind_at-spelling (QuotedText text) is = refl
kind_at-spelling (Symbol bytes) is = each_spelling (λ s. kind_at s ≡ kind.Symbol) symbols bytes is
    (refl, (refl, (refl, (refl, (refl, (refl, (refl, (refl, (refl, (refl, (refl, (refl, (refl, (refl, (refl, (refl, (refl, tt)))))))))))))))))

-- two bytes tell it
pub kind_at_front : (bytes : List ℕ) (next : ℕ) (more rest : List ℕ) → 0 < length bytes → kind_at (bytes ++ next ∷ more) ≡ kind_at (bytes ++ next ∷ rest)
unfolding kind_at
kind_at_front [] next more rest some = absurd (omega arith)
kind_at_front (b ∷ []) next more rest some = refl
kind_at_front (b ∷ c ∷ bytes) next more rest some = refl

-- a piece has a byte
pub spelling_some : (piece : Piece) → IsPiece piece → 0 < length (spelling piece)
spelling_some (Blanks []) is = absurd is
spelling_some (Blanks (b ∷ bytes)) is = omega arith
spelling_some (LineComment line) is = omega arith
spelling_some (BlockComment bytes) is = omega arith
spelling_some (Word []) is = absurd is
spelling_some (Word (b ∷ bytes)) is = omega arith
spelling_some (Number []) is = absurd is
spelling_some (Number (b ∷ bytes)) is = omega arith
spelling_some (QuotedName name) is = omega arith
spelling_some (QuotedText text) is = omega arith
spelling_some (Symbol bytes) is = (symbol_short bytes is).least

-- ---- what a kind says of the bytes

-- nothing but a symbol can begin there
abbrev pub begins_none : ℕ → Bool
begins_none b = is_blank b || begins_word b || is_digit b || b == single_quote || b == double_quote

abbrev pub Says : Kind → List ℕ → Type 0
Says kind.Word bytes = begins_word (slice_index bytes 0) ≡ true
Says kind.Number bytes = is_digit (slice_index bytes 0) ≡ true
Says kind.Blanks bytes = is_blank (slice_index bytes 0) ≡ true
Says kind.QuotedName bytes = slice_index bytes 0 ≡ double_quote
Says kind.QuotedText bytes = slice_index bytes 0 ≡ single_quote
Says kind.LineComment bytes = starts_with nat_eq bytes (codes "--") ≡ true
Says kind.BlockComment bytes = starts_with nat_eq bytes (codes "/*") ≡ true
Says kind.Symbol bytes = begins_none (slice_index bytes 0) ≡ false

none_begins : (b : ℕ) → begins_word b ≡ false → is_digit b ≡ false → is_blank b ≡ false → (b == double_quote) ≡ false → (b == single_quote) ≡ false → begins_none b ≡ false
none_begins b word digit blank name text = or_from _ _ (or_from _ _ (or_from _ _ (or_from _ _ blank word) digit) text) name

pub kind_says : (bytes : List ℕ) → Says (kind_at bytes) bytes
unfolding kind_at
kind_says bytes =
    let b = slice_index bytes 0 in
    let P : Kind → Type 0 = λ k. Says k bytes in
    cond_both (begins_word b) _ _ P (λ e. e) (λ word.
    cond_both (is_digit b) _ _ P (λ e. e) (λ digit.
    cond_both (is_blank b) _ _ P (λ e. e) (λ blank.
    cond_both (b == double_quote) _ _ P (λ e. eqb-true b double_quote e) (λ name.
    cond_both (b == single_quote) _ _ P (λ e. eqb-true b single_quote e) (λ text.
    cond_both (starts_with nat_eq bytes (codes "--")) _ _ P (λ e. e) (λ line.
    cond_both (starts_with nat_eq bytes (codes "/*")) _ _ P (λ e. e) (λ block. none_begins b word digit blank name text)))))))

-- two bytes that stand first
pub starts_two : (bytes : List ℕ) (first second : ℕ) → starts_with nat_eq bytes (first ∷ second ∷ []) ≡ true → bytes ≡ first ∷ second ∷ drop 2 bytes
starts_two [] first second e = absurd cc
starts_two (b ∷ []) first second e = absurd (let parts = and_parts (eqb first b) false e in cc)
starts_two (b ∷ c ∷ bytes) first second e =
    let parts = and_parts (eqb first b) (eqb second c && true) e in
    let last = and_parts (eqb second c) true parts.1 in
    ap₂ (λ x y. x ∷ y ∷ bytes) (sym (eqb-true first b parts.0)) (sym (eqb-true second c last.0))

pub says_at : (k : Kind) (bytes : List ℕ) → k ≡ kind_at bytes → Says k bytes
says_at k bytes e = subst (λ x. Says x bytes) (sym e) (kind_says bytes)
