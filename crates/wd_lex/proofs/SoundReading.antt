-- What is read stands there, and what is refused is refused rightly.
use Rattle.std.proofs.Common.{◌≡◌, ◌≢◌, ℕ, ◌<◌, ◌≤◌, Bool, true, false, cond, not, ◌&&◌, List, [], ◌∷◌, ◌++◌, length, take, drop, codes, ◌==◌, Option, Some, None, is_some, Ok, Err, inl, inr, refl, sym, ap, ap₂, ◌∙◌, subst, arith, append_assoc}
use Rattle.std.proofs.lemmas.Bool.{and_parts, both_ways, not-true, ne_eqb, leb-true, le-leb}
use Rattle.std.proofs.lemmas.List.{take_at, drop_at}
use Rattle.std.specs.List.{take_while}
use Rattle.wd_lex.specs.declared.pieces.Kind.{Kind}
use Rattle.wd_lex.specs.declared.pieces.Kind.TheVariants as kind
use Rattle.wd_lex.specs.declared.characters.Class.TheVariants as class
use Rattle.wd_lex.specs.declared.error.LexError.TheVariants.{UnknownCharacter, BadNumber}
use Rattle.wd_lex.specs.Characters.{is_blank, is_digit, begins_word, goes_on_word, single_quote, double_quote}
use Rattle.wd_lex.specs.Terminals.{lookup, symbols}
use Rattle.wd_lex.specs.Pieces.{Piece, Blanks, LineComment, BlockComment, Word, Number, Symbol, spelling, IsPiece, IsLongest, IsGoodNumber, IsRunOf, Stands, in_quotes, doubled}
use Rattle.wd_lex.specs.Causes.{IsRefused, place_of}
use Rattle.wd_lex.specs.Reading.{Reading, kind_at, is_in, drop_while, unquote, comment_end, is_good_number, read_as, read_comment, read_name, read_text, read_number, read_symbol, piece_at}
use Rattle.wd_lex.proofs.RunFacts.{run_whole, run_passes, run_stops, take_while_yes, drop_while_yes}
use Rattle.wd_lex.proofs.QuoteFacts.{Unquotes, UnquotesIf, unquote_is, IsOpen-from_unquote}
use Rattle.wd_lex.proofs.CommentFacts.{FindsIf, comment_end_is, comment_end-ends}
use Rattle.wd_lex.proofs.SymbolFacts.{symbol_short}
use Rattle.wd_lex.proofs.KindFacts.{Says, kind_says, starts_two, word_goes_on, kind_blanks, kind_word, kind_number, kind_line, kind_block, kind_name, kind_text}
use Rattle.wd_lex.proofs.Longest.{IsAlone, blanks_longest, word_longest, number_longest, line_longest, block_longest, name_longest, text_longest, symbol_longest}

-- the bytes begin with the piece, and it may stand before the rest
pub record IsFront (bytes : List ℕ) (piece : Piece) (rest : List ℕ) : Type 0 where
  pub whole : bytes ≡ spelling piece ++ rest
  pub stands : Stands piece rest

abbrev pub IsRead : ℕ → List ℕ → Reading → Type 0
IsRead place bytes (Ok found) = IsFront bytes found.0 found.1
IsRead place bytes (Err e) = (place_of e ≡ Some place) × IsRefused e bytes

run_word : (begins goes_on : ℕ → Bool) → ((b : ℕ) → begins b ≡ true → goes_on b ≡ true) → (b : ℕ) (bytes : List ℕ) → begins b ≡ true → IsRunOf begins goes_on (take_while goes_on (b ∷ bytes))
run_word begins goes_on within b bytes e = subst (IsRunOf begins goes_on) (sym (take_while_yes goes_on b bytes (within b e))) (e, run_passes goes_on bytes)

blanks_read : (place b : ℕ) (bytes : List ℕ) → is_blank b ≡ true → IsFront (b ∷ bytes) (Blanks (take_while is_blank (b ∷ bytes))) (drop_while is_blank (b ∷ bytes))
blanks_read place b bytes e =
    let is = run_word is_blank is_blank (λ x h. h) b bytes e in
    record {
      whole = sym (run_whole is_blank (b ∷ bytes));
      stands = record {
        is = is;
        longest = blanks_longest _ _ is (ap kind_at (run_whole is_blank (b ∷ bytes)) ∙ kind_blanks b bytes e) (run_stops is_blank (b ∷ bytes));
        good = tt;
      };
    }

word_read : (place b : ℕ) (bytes : List ℕ) → begins_word b ≡ true → IsFront (b ∷ bytes) (Word (take_while goes_on_word (b ∷ bytes))) (drop_while goes_on_word (b ∷ bytes))
word_read place b bytes e =
    let is = run_word begins_word goes_on_word word_goes_on b bytes e in
    record {
      whole = sym (run_whole goes_on_word (b ∷ bytes));
      stands = record {
        is = is;
        longest = word_longest _ _ is (ap kind_at (run_whole goes_on_word (b ∷ bytes)) ∙ kind_word b bytes e) (run_stops goes_on_word (b ∷ bytes));
        good = tt;
      };
    }

-- ---- numbers

pub good_from_test : (digits rest : List ℕ) → is_good_number digits rest ≡ true → IsGoodNumber digits rest
good_from_test digits [] e = leb-true _ _ (and_parts _ _ e).0
good_from_test digits (b ∷ rest) e = let parts = and_parts _ _ e in (leb-true _ _ parts.0, not-true _ parts.1)

pub test_from_good : (digits rest : List ℕ) → IsGoodNumber digits rest → is_good_number digits rest ≡ true
test_from_good digits [] h = ap (λ t. t && true) (le-leb _ _ h)
test_from_good digits (b ∷ rest) h = ap₂ (λ s t. s && not t) (le-leb _ _ h.0) h.1

number_read_by : (place : ℕ) (bytes digits rest : List ℕ) (t : Bool) → is_good_number digits rest ≡ t → bytes ≡ digits ++ rest → IsPiece (Number digits) → IsLongest (Number digits) rest
    → IsRead place bytes (cond t (Ok (Number digits, rest)) (Err (BadNumber place)))
number_read_by place bytes digits rest true good whole is longest = record { whole = whole; stands = record { is = is; longest = longest; good = good_from_test digits rest good } }
number_read_by place bytes digits rest false bad whole is longest = (refl, (digits, rest, whole, is, longest, λ good. both_ways _ bad (test_from_good digits rest good)))

number_read : (place b : ℕ) (bytes : List ℕ) → is_digit b ≡ true → IsRead place (b ∷ bytes) (read_number place (take_while is_digit (b ∷ bytes)) (drop_while is_digit (b ∷ bytes)))
number_read place b bytes e =
    let is = run_word is_digit is_digit (λ x h. h) b bytes e in
    let digits = take_while is_digit (b ∷ bytes) in
    let rest = drop_while is_digit (b ∷ bytes) in
    number_read_by place (b ∷ bytes) digits rest (is_good_number digits rest) refl (sym (run_whole is_digit (b ∷ bytes))) is
    (number_longest _ _ is (ap kind_at (run_whole is_digit (b ∷ bytes)) ∙ kind_number b bytes e) (run_stops is_digit (b ∷ bytes)))

-- ---- comments

line_read_at : (place : ℕ) (bytes : List ℕ) → let p = is_in class.Line in IsRead place (codes "--" ++ bytes) (Ok (LineComment (drop 2 (take_while p (codes "--" ++ bytes))), drop_while p (codes "--" ++ bytes)))
line_read_at place bytes =
    let p = is_in class.Line in
    let front : take_while p (codes "--" ++ bytes) ≡ codes "--" ++ take_while p bytes = take_while_yes p 45 (45 ∷ bytes) refl ∙ ap (λ l. 45 ∷ l) (take_while_yes p 45 bytes refl) in
    let back : drop_while p (codes "--" ++ bytes) ≡ drop_while p bytes = drop_while_yes p 45 (45 ∷ bytes) refl ∙ drop_while_yes p 45 bytes refl in
    let is = run_passes p bytes in
    subst (λ (x : Piece × List ℕ). IsFront (codes "--" ++ bytes) x.0 x.1) (ap₂ (λ f b. (LineComment (drop 2 f), b)) (sym front) (sym back)) (record {
      whole = ap (λ l. codes "--" ++ l) (sym (run_whole p bytes));
      stands = record {
        is = is;
        longest = line_longest (take_while p bytes) (drop_while p bytes) is (kind_line (take_while p bytes ++ drop_while p bytes)) (run_stops p bytes);
        good = tt;
      };
    })

block_read_by : (place : ℕ) (bytes : List ℕ) (found : Option ℕ) → comment_end 0 2 bytes ≡ found → FindsIf 0 2 bytes found → IsRead place (codes "/*" ++ bytes) (read_comment place (codes "/*" ++ bytes) found)
block_read_by place bytes None none h =
    (refl, (bytes, refl, λ inside more ends whole. absurd (let known = sym none ∙ ap (comment_end 0 2) whole ∙ comment_end-ends 0 2 inside more ends in cc)))
block_read_by place bytes (Some end) some h =
    let whole : codes "/*" ++ bytes ≡ (codes "/*" ++ h.inside) ++ h.rest = ap (λ l. codes "/*" ++ l) h.whole in
    let there : length (codes "/*" ++ h.inside) ≡ end = omega (arith, h.there) in
    let front : drop 2 (take end (codes "/*" ++ bytes)) ≡ h.inside = ap (λ l. drop 2 (take end l)) whole ∙ ap (drop 2) (take_at (codes "/*" ++ h.inside) h.rest end there) in
    let back : drop end (codes "/*" ++ bytes) ≡ h.rest = ap (drop end) whole ∙ drop_at (codes "/*" ++ h.inside) h.rest end there in
    subst (λ (x : Piece × List ℕ). IsFront (codes "/*" ++ bytes) x.0 x.1) (ap₂ (λ f b. (BlockComment f, b)) (sym front) (sym back)) (record {
      whole = whole;
      stands = record { is = h.ends; longest = block_longest h.inside h.rest h.ends (kind_block (h.inside ++ h.rest)); good = tt };
    })

-- ---- quotes

quoted_whole : (q : ℕ) (bytes inside rest : List ℕ) → Unquotes q bytes inside rest → q ∷ bytes ≡ in_quotes q inside ++ rest
quoted_whole q bytes inside rest h = ap (λ l. q ∷ l) (h.whole ∙ sym (append_assoc (doubled q inside) (q ∷ []) rest))

text_read : (place : ℕ) (bytes : List ℕ) (found : Option (List ℕ × List ℕ)) → unquote single_quote bytes ≡ found → UnquotesIf single_quote bytes found → IsRead place (single_quote ∷ bytes) (read_text place found)
text_read place bytes None none h = (refl, (bytes, refl, IsOpen-from_unquote single_quote bytes none))
text_read place bytes (Some found) some h = record {
  whole = quoted_whole single_quote bytes found.0 found.1 h;
  stands = record { is = tt; longest = text_longest found.0 found.1 (kind_text _) h.ends; good = tt };
}

name_read_by : (place : ℕ) (bytes name rest : List ℕ) → Unquotes double_quote bytes name rest → IsRead place (double_quote ∷ bytes) (read_name place (Some (name, rest)))
name_read_by place bytes [] rest h = (refl, (bytes, refl, inr (rest, h.whole, h.ends)))
name_read_by place bytes (b ∷ name) rest h =
    let is : b ∷ name ≢ [] = λ e. cc in
    let some : (length (b ∷ name) == 0) ≡ false = ne_eqb (length (b ∷ name)) 0 (λ e. omega arith) in
    rw some (record {
      whole = quoted_whole double_quote bytes (b ∷ name) rest h;
      stands = record { is = is; longest = name_longest (b ∷ name) rest is (kind_name _) h.ends; good = tt };
    })

name_read : (place : ℕ) (bytes : List ℕ) (found : Option (List ℕ × List ℕ)) → unquote double_quote bytes ≡ found → UnquotesIf double_quote bytes found → IsRead place (double_quote ∷ bytes) (read_name place found)
name_read place bytes None none h = (refl, (bytes, refl, inl (IsOpen-from_unquote double_quote bytes none)))
name_read place bytes (Some found) some h = name_read_by place bytes found.0 found.1 h

-- ---- symbols

-- what stands first is no symbol
none_symbol : (bytes : List ℕ) → is_some (lookup symbols (take 2 bytes)) ≡ false → is_some (lookup symbols (take 1 bytes)) ≡ false
    → (symbol more : List ℕ) → IsPiece (Symbol symbol) → bytes ≢ symbol ++ more
none_symbol bytes no_two no_one symbol more is whole = by_length symbol is (symbol_short symbol is).least (symbol_short symbol is).most whole
  where
    by_length : (s : List ℕ) → is_some (lookup symbols s) ≡ true → 0 < length s → length s ≤ 2 → bytes ≡ s ++ more → ⊥
    by_length [] known least most e = omega arith
    by_length (b ∷ []) known least most e = both_ways _ no_one (ap (λ l. is_some (lookup symbols (take 1 l))) e ∙ known)
    by_length (b ∷ c ∷ []) known least most e = both_ways _ no_two (ap (λ l. is_some (lookup symbols (take 2 l))) e ∙ known)
    by_length (b ∷ c ∷ d ∷ s) known least most e = absurd (omega arith)

symbol_read_as : (place : ℕ) (bytes front rest : List ℕ) → bytes ≡ front ++ rest → kind_at bytes ≡ kind.Symbol → is_some (lookup symbols front) ≡ true → IsAlone front rest
    → IsRead place bytes (Ok (Symbol front, drop (length front) bytes))
symbol_read_as place bytes front rest whole told is alone =
    let back : drop (length front) bytes ≡ rest = ap (drop (length front)) whole ∙ drop_at front rest (length front) refl in
    subst (λ r. IsFront bytes (Symbol front) r) (sym back) (record {
      whole = whole;
      stands = record { is = is; longest = symbol_longest front rest is (ap kind_at (sym whole) ∙ told) alone; good = tt };
    })

two_alone : (b c : ℕ) (rest : List ℕ) → IsAlone (b ∷ c ∷ []) rest
two_alone b c [] = tt
two_alone b c (d ∷ rest) = λ one. absurd (omega arith)

-- two bytes that are a symbol
symbol_read_two : (place : ℕ) (bytes : List ℕ) → kind_at bytes ≡ kind.Symbol → is_some (lookup symbols (take 2 bytes)) ≡ true
    → IsRead place bytes (read_symbol place (take 2 bytes) bytes)
symbol_read_two place [] told is = absurd cc
symbol_read_two place (b ∷ []) told is = rw is (symbol_read_as place (b ∷ []) (b ∷ []) [] refl told is tt)
symbol_read_two place (b ∷ c ∷ rest) told is = rw is (symbol_read_as place (b ∷ c ∷ rest) (b ∷ c ∷ []) rest refl told is (two_alone b c rest))

-- one byte, where two are none
symbol_read_one : (place b : ℕ) (bytes : List ℕ) (t : Bool) → is_some (lookup symbols (b ∷ [])) ≡ t → kind_at (b ∷ bytes) ≡ kind.Symbol → Says kind.Symbol (b ∷ bytes)
    → is_some (lookup symbols (take 2 (b ∷ bytes))) ≡ false → IsRead place (b ∷ bytes) (cond t (Ok (Symbol (b ∷ []), bytes)) (Err (UnknownCharacter place)))
symbol_read_one place b [] true is told says no_two = absurd (both_ways _ no_two is)
symbol_read_one place b (c ∷ bytes) true is told says no_two = symbol_read_as place (b ∷ c ∷ bytes) (b ∷ []) (c ∷ bytes) refl told is (λ one. no_two)
symbol_read_one place b bytes false no_one told says no_two = (refl, (says, none_symbol (b ∷ bytes) no_two no_one))

symbol_read_by : (place b : ℕ) (bytes : List ℕ) (t : Bool) → is_some (lookup symbols (take 2 (b ∷ bytes))) ≡ t → kind_at (b ∷ bytes) ≡ kind.Symbol → Says kind.Symbol (b ∷ bytes)
    → IsRead place (b ∷ bytes) (read_symbol place (cond t (take 2 (b ∷ bytes)) (take 1 (b ∷ bytes))) (b ∷ bytes))
symbol_read_by place b bytes true is told says = symbol_read_two place (b ∷ bytes) told is
symbol_read_by place b bytes false no_two told says = symbol_read_one place b bytes (is_some (lookup symbols (b ∷ []))) refl told says no_two

-- ---- all kinds

read_as_sound : (k : Kind) (place b : ℕ) (bytes : List ℕ) → kind_at (b ∷ bytes) ≡ k → Says k (b ∷ bytes) → IsRead place (b ∷ bytes) (read_as k place (b ∷ bytes))
unfolding read_as
read_as_sound kind.Blanks place b bytes told says = blanks_read place b bytes says
read_as_sound kind.Word place b bytes told says = word_read place b bytes says
read_as_sound kind.Number place b bytes told says = number_read place b bytes says
read_as_sound kind.QuotedName place b bytes told says =
    subst (λ x. IsRead place (x ∷ bytes) (read_name place (unquote double_quote bytes))) (sym says) (name_read place bytes (unquote double_quote bytes) refl (unquote_is double_quote bytes))
read_as_sound kind.QuotedText place b bytes told says =
    subst (λ x. IsRead place (x ∷ bytes) (read_text place (unquote single_quote bytes))) (sym says) (text_read place bytes (unquote single_quote bytes) refl (unquote_is single_quote bytes))
read_as_sound kind.LineComment place b bytes told says =
    let p = is_in class.Line in
    subst (λ l. IsRead place l (Ok (LineComment (drop 2 (take_while p l)), drop_while p l))) (sym (starts_two (b ∷ bytes) 45 45 says)) (line_read_at place (drop 2 (b ∷ bytes)))
read_as_sound kind.BlockComment place b bytes told says =
    let more = drop 2 (b ∷ bytes) in
    subst (λ l. IsRead place l (read_comment place l (comment_end 0 2 (drop 2 l)))) (sym (starts_two (b ∷ bytes) 47 42 says)) (block_read_by place more (comment_end 0 2 more) refl (comment_end_is 0 2 more))
read_as_sound kind.Symbol place b bytes told says = symbol_read_by place b bytes (is_some (lookup symbols (take 2 (b ∷ bytes)))) refl told says

-- what is read at the front stands there, and so does the cause of a refusal
pub piece_at_sound : (place b : ℕ) (bytes : List ℕ) → IsRead place (b ∷ bytes) (piece_at place (b ∷ bytes))
unfolding piece_at
piece_at_sound place b bytes = read_as_sound (kind_at (b ∷ bytes)) place b bytes refl (kind_says (b ∷ bytes))
