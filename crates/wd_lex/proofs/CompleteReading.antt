-- What stands at the front is read, and what is refused rightly is refused.
use Rattle.std.proofs.Common.{◌≡◌, ◌≢◌, ℕ, ◌+◌, Bool, true, false, cond, ◌&&◌, eqb, List, [], ◌∷◌, ◌++◌, length, take, drop, codes, ◌==◌, Option, Some, None, is_some, Ok, Err, inl, inr, refl, sym, ap, ap₂, ◌∙◌, arith, append_assoc, take-append-drop}
use Rattle.std.proofs.lemmas.Bool.{and_parts, both_ways, cond-true, cond-false, eq-eqb, ne_eqb, eqb-true, or_parts, false_from_ne_true}
use Rattle.std.proofs.lemmas.List.{take_at, drop_at, flat_map_more}
use Rattle.std.specs.List.{list_all}
use Rattle.wd_lex.specs.declared.pieces.Kind.{Kind}
use Rattle.wd_lex.specs.declared.pieces.Kind.TheVariants as kind
use Rattle.wd_lex.specs.declared.characters.Class.TheVariants as class
use Rattle.wd_lex.specs.declared.error.LexError.{LexError}
use Rattle.wd_lex.specs.declared.error.LexError.TheVariants.{UnknownCharacter, TextNotClosed, NameNotClosed, BadNumber, CommentNotClosed, NotUtf8, TooLong, OutOfMemory}
use Rattle.wd_lex.specs.Characters.{is_blank, is_digit, begins_word, goes_on_word, single_quote, double_quote}
use Rattle.wd_lex.specs.Terminals.{lookup, symbols}
use Rattle.wd_lex.specs.Pieces.{Piece, Blanks, LineComment, BlockComment, Word, Number, QuotedName, QuotedText, Symbol, EndsComment, closing, spelling, IsPiece, IsLongest, IsRunOf, Stands, in_quotes, doubled}
use Rattle.wd_lex.specs.Causes.{BeginsWith, IsRefused, IsUnknown, place_of}
use Rattle.wd_lex.specs.Reading.{kind_at, is_in, unquote, comment_end, symbol_front, is_good_number, read_as, read_comment, read_name, read_text, read_number, read_symbol, piece_at}
use Rattle.wd_lex.proofs.RunFacts.{Stops, take_while_run, drop_while_run}
use Rattle.wd_lex.proofs.QuoteFacts.{unquote-doubled, unquote-IsOpen}
use Rattle.wd_lex.proofs.CommentFacts.{FindsIf, comment_end_is, comment_end-ends}
use Rattle.wd_lex.proofs.SymbolFacts.{each_spelling}
use Rattle.wd_lex.proofs.KindFacts.{piece_kind, Says, kind_says, begins_none, starts_two, word_goes_on, kind_blanks, kind_word, kind_number, kind_line, kind_block, kind_name, kind_text}
use Rattle.wd_lex.proofs.Longest.{word_all}
use Rattle.wd_lex.proofs.SoundReading.{test_from_good, good_from_test}

-- ---- what follows a piece that is as long as it can be

all_push : (p : ℕ → Bool) (bytes : List ℕ) (next : ℕ) → list_all p bytes ≡ true → p next ≡ true → list_all p (bytes ++ next ∷ []) ≡ true
all_push p [] next all here = ap (λ t. t && true) here
all_push p (b ∷ bytes) next all here = let parts = and_parts (p b) (list_all p bytes) all in ap₂ (λ s t. s && t) parts.0 (all_push p bytes next parts.1 here)

word_push : (begins goes_on : ℕ → Bool) (bytes : List ℕ) (next : ℕ) → IsRunOf begins goes_on bytes → goes_on next ≡ true → IsRunOf begins goes_on (bytes ++ next ∷ [])
word_push begins goes_on [] next is here = absurd is
word_push begins goes_on (b ∷ bytes) next is here = (is.0, all_push goes_on bytes next is.1 here)

-- the piece would go on with what passes
stops_by : (p : ℕ → Bool) (piece : Piece) (rest : List ℕ) (longer : ℕ → Piece)
    → ((next : ℕ) → p next ≡ true → IsPiece (longer next) × (spelling (longer next) ≡ spelling piece ++ next ∷ [])) → IsLongest piece rest → Stops p rest
stops_by p piece [] longer goes_on longest = tt
stops_by p piece (next ∷ rest) longer goes_on longest =
    false_from_ne_true (p next) (λ passes. let known = goes_on next passes in longest (longer next) [] known.0 known.1)

doubled_push : (q : ℕ) (inside : List ℕ) → doubled q (inside ++ q ∷ []) ≡ doubled q inside ++ q ∷ q ∷ []
doubled_push q inside = sym (flat_map_more (λ b. cond (eqb b q) (b ∷ b ∷ []) (b ∷ [])) [] inside q) ∙ ap (λ t. doubled q inside ++ cond t (q ∷ q ∷ []) (q ∷ [])) (eq-eqb q q refl)

-- two quotes more are one quote more inside
in_quotes_push : (q : ℕ) (inside : List ℕ) → in_quotes q (inside ++ q ∷ []) ≡ in_quotes q inside ++ q ∷ q ∷ []
in_quotes_push q inside = ap (λ l. q ∷ l)
    (ap (λ l. l ++ q ∷ []) (doubled_push q inside) ∙ append_assoc (doubled q inside) (q ∷ q ∷ []) (q ∷ []) ∙ sym (append_assoc (doubled q inside) (q ∷ []) (q ∷ q ∷ [])))

not_nil : (bytes : List ℕ) (b : ℕ) → bytes ++ b ∷ [] ≢ []
not_nil [] b e = cc
not_nil (c ∷ bytes) b e = cc

text_ends : (text rest : List ℕ) → IsLongest (QuotedText text) rest → ¬ (BeginsWith single_quote rest)
text_ends text [] longest = λ begins. begins
text_ends text (next ∷ rest) longest = λ begins.
    longest (QuotedText (text ++ single_quote ∷ [])) (single_quote ∷ []) tt (in_quotes_push single_quote text ∙ ap (λ b. in_quotes single_quote text ++ b ∷ single_quote ∷ []) (sym begins))

name_ends : (name rest : List ℕ) → IsLongest (QuotedName name) rest → ¬ (BeginsWith double_quote rest)
name_ends name [] longest = λ begins. begins
name_ends name (next ∷ rest) longest = λ begins.
    longest (QuotedName (name ++ double_quote ∷ [])) (double_quote ∷ []) (not_nil name double_quote)
    (in_quotes_push double_quote name ∙ ap (λ b. in_quotes double_quote name ++ b ∷ double_quote ∷ []) (sym begins))

-- ---- symbols

-- the symbol is the longest there, and tells its kind
abbrev SymbolReads : List ℕ → Type 0
SymbolReads bytes = (rest : List ℕ) → IsLongest (Symbol bytes) rest → (kind_at (bytes ++ rest) ≡ kind.Symbol) × (symbol_front (bytes ++ rest) ≡ bytes)

one_front : (b : ℕ) (rest : List ℕ) → is_some (lookup symbols (b ∷ [])) ≡ true → IsLongest (Symbol (b ∷ [])) rest → symbol_front (b ∷ rest) ≡ b ∷ []
one_front b [] is longest = cond-true (is_some (lookup symbols (b ∷ []))) _ _ is
one_front b (next ∷ rest) is longest =
    cond-false (is_some (lookup symbols (b ∷ next ∷ []))) _ _ (false_from_ne_true _ (λ longer_is. longest (Symbol (b ∷ next ∷ [])) [] longer_is refl))

one_reads : (b : ℕ) → is_some (lookup symbols (b ∷ [])) ≡ true → ((rest : List ℕ) → IsLongest (Symbol (b ∷ [])) rest → kind_at (b ∷ rest) ≡ kind.Symbol) → SymbolReads (b ∷ [])
one_reads b is told = λ rest longest. (told rest longest, one_front b rest is longest)

-- a minus begins no comment
minus_told : (rest : List ℕ) → IsLongest (Symbol (45 ∷ [])) rest → kind_at (45 ∷ rest) ≡ kind.Symbol
unfolding kind_at
minus_told [] longest = refl
minus_told (next ∷ rest) longest =
    let other : eqb 45 next ≡ false = false_from_ne_true (eqb 45 next) (λ same. longest (LineComment []) [] refl (ap (λ b. 45 ∷ b ∷ []) (eqb-true 45 next same))) in
    rw other refl

-- nor does a slash
slash_told : (rest : List ℕ) → IsLongest (Symbol (47 ∷ [])) rest → kind_at (47 ∷ rest) ≡ kind.Symbol
unfolding kind_at
slash_told [] longest = refl
slash_told (next ∷ rest) longest =
    let other : eqb 42 next ≡ false = false_from_ne_true (eqb 42 next) (λ same. longest (BlockComment (codes "*/")) (codes "*/") closing (ap (λ b. 47 ∷ b ∷ codes "*/") (eqb-true 42 next same))) in
    rw other refl

symbol_reads : (bytes : List ℕ) → IsPiece (Symbol bytes) → SymbolReads bytes
unfolding kind_at
symbol_reads bytes is = each_spelling SymbolReads symbols bytes is (
  one_reads 40 refl (λ rest longest. refl),
  (
    one_reads 41 refl (λ rest longest. refl),
    (
      one_reads 44 refl (λ rest longest. refl),
      (
        one_reads 46 refl (λ rest longest. refl),
        (
          one_reads 59 refl (λ rest longest. refl),
          (
            one_reads 42 refl (λ rest longest. refl),
            (
              one_reads 43 refl (λ rest longest. refl),
              (
                one_reads 45 refl minus_told,
                (
                  one_reads 47 refl slash_told,
                  (
                    one_reads 37 refl (λ rest longest. refl),
                    (
                      one_reads 61 refl (λ rest longest. refl),
                      (
                        λ rest longest. (refl, refl),
                        (
                          λ rest longest. (refl, refl),
                          (one_reads 60 refl (λ rest longest. refl), (λ rest longest. (refl, refl), (one_reads 62 refl (λ rest longest. refl), (λ rest longest. (refl, refl), tt)))),
                        ),
                      ),
                    ),
                  ),
                ),
              ),
            ),
          ),
        ),
      ),
    ),
  ),
)

-- ---- each kind of piece

read_at : (place : ℕ) (bytes : List ℕ) (k : Kind) → kind_at bytes ≡ k → piece_at place bytes ≡ read_as k place bytes
unfolding piece_at
read_at place bytes k told = ap (λ x. read_as x place bytes) told

word_told : (begins goes_on : ℕ → Bool) (k : Kind) → ((b : ℕ) (bytes : List ℕ) → begins b ≡ true → kind_at (b ∷ bytes) ≡ k) → (bytes rest : List ℕ) → IsRunOf begins goes_on bytes → kind_at (bytes ++ rest) ≡ k
word_told begins goes_on k told [] rest is = absurd is
word_told begins goes_on k told (b ∷ bytes) rest is = told b (bytes ++ rest) is.0

blanks_again : (place : ℕ) (bytes rest : List ℕ) → Stands (Blanks bytes) rest → piece_at place (bytes ++ rest) ≡ Ok (Blanks bytes, rest)
unfolding read_as
blanks_again place bytes rest h =
    let all = word_all is_blank is_blank (λ b e. e) bytes h.is in
    let stops = stops_by is_blank (Blanks bytes) rest (λ next. Blanks (bytes ++ next ∷ [])) (λ next passes. (word_push is_blank is_blank bytes next h.is passes, refl)) h.longest in
    read_at place (bytes ++ rest) kind.Blanks (word_told is_blank is_blank kind.Blanks kind_blanks bytes rest h.is)
    ∙ ap₂ (λ f b. Ok (Blanks f, b)) (take_while_run is_blank bytes rest all stops) (drop_while_run is_blank bytes rest all stops)

word_again : (place : ℕ) (bytes rest : List ℕ) → Stands (Word bytes) rest → piece_at place (bytes ++ rest) ≡ Ok (Word bytes, rest)
unfolding read_as
word_again place bytes rest h =
    let all = word_all begins_word goes_on_word word_goes_on bytes h.is in
    let stops = stops_by goes_on_word (Word bytes) rest (λ next. Word (bytes ++ next ∷ [])) (λ next passes. (word_push begins_word goes_on_word bytes next h.is passes, refl)) h.longest in
    read_at place (bytes ++ rest) kind.Word (word_told begins_word goes_on_word kind.Word kind_word bytes rest h.is)
    ∙ ap₂ (λ f b. Ok (Word f, b)) (take_while_run goes_on_word bytes rest all stops) (drop_while_run goes_on_word bytes rest all stops)

-- all digits that stand there
number_there : (place : ℕ) (bytes rest : List ℕ) → IsPiece (Number bytes) → IsLongest (Number bytes) rest → piece_at place (bytes ++ rest) ≡ read_number place bytes rest
unfolding read_as
number_there place bytes rest is longest =
    let all = word_all is_digit is_digit (λ b e. e) bytes is in
    let stops = stops_by is_digit (Number bytes) rest (λ next. Number (bytes ++ next ∷ [])) (λ next passes. (word_push is_digit is_digit bytes next is passes, refl)) longest in
    read_at place (bytes ++ rest) kind.Number (word_told is_digit is_digit kind.Number kind_number bytes rest is)
    ∙ ap₂ (λ f b. read_number place f b) (take_while_run is_digit bytes rest all stops) (drop_while_run is_digit bytes rest all stops)

-- a line goes on up to its end
pub line_stops : (line rest : List ℕ) → Stands (LineComment line) rest → Stops (is_in class.Line) rest
line_stops line rest h =
    let p = is_in class.Line in stops_by p (LineComment line) rest (λ next. LineComment (line ++ next ∷ [])) (λ next passes. (all_push p line next h.is passes, refl)) h.longest

line_again : (place : ℕ) (line rest : List ℕ) → Stands (LineComment line) rest → piece_at place (codes "--" ++ line ++ rest) ≡ Ok (LineComment line, rest)
unfolding read_as
line_again place line rest h =
    let p = is_in class.Line in
    let stops = line_stops line rest h in
    read_at place (codes "--" ++ line ++ rest) kind.LineComment (kind_line (line ++ rest))
    ∙ ap₂ (λ f b. Ok (LineComment (drop 2 f), b)) (take_while_run p (codes "--" ++ line) rest h.is stops) (drop_while_run p (codes "--" ++ line) rest h.is stops)

block_again : (place : ℕ) (inside rest : List ℕ) → EndsComment inside → piece_at place (codes "/*" ++ inside ++ rest) ≡ Ok (BlockComment inside, rest)
unfolding read_as
block_again place inside rest ends =
    let whole = codes "/*" ++ inside in
    let there : length whole ≡ 2 + length inside = omega arith in
    read_at place (codes "/*" ++ inside ++ rest) kind.BlockComment (kind_block (inside ++ rest))
    ∙ ap (read_comment place (whole ++ rest)) (comment_end-ends 0 2 inside rest ends)
    ∙ ap₂ (λ f b. Ok (BlockComment (drop 2 f), b)) (take_at whole rest (2 + length inside) there) (drop_at whole rest (2 + length inside) there)

quoted_rest : (q : ℕ) (inside rest : List ℕ) → drop 1 (in_quotes q inside ++ rest) ≡ doubled q inside ++ q ∷ rest
quoted_rest q inside rest = append_assoc (doubled q inside) (q ∷ []) rest

text_again : (place : ℕ) (text rest : List ℕ) → Stands (QuotedText text) rest → piece_at place (in_quotes single_quote text ++ rest) ≡ Ok (QuotedText text, rest)
unfolding read_as
text_again place text rest h =
    read_at place (in_quotes single_quote text ++ rest) kind.QuotedText (kind_text _)
    ∙ ap (λ l. read_text place (unquote single_quote l)) (quoted_rest single_quote text rest)
    ∙ ap (read_text place) (unquote-doubled single_quote text rest (text_ends text rest h.longest))

name_some : (place : ℕ) (name rest : List ℕ) → name ≢ [] → read_name place (Some (name, rest)) ≡ Ok (QuotedName name, rest)
name_some place [] rest some = absurd (some refl)
name_some place (b ∷ name) rest some = cond-false (length (b ∷ name) == 0) _ _ (ne_eqb (length (b ∷ name)) 0 (λ e. omega arith))

name_again : (place : ℕ) (name rest : List ℕ) → Stands (QuotedName name) rest → piece_at place (in_quotes double_quote name ++ rest) ≡ Ok (QuotedName name, rest)
unfolding read_as
name_again place name rest h =
    read_at place (in_quotes double_quote name ++ rest) kind.QuotedName (kind_name _)
    ∙ ap (λ l. read_name place (unquote double_quote l)) (quoted_rest double_quote name rest)
    ∙ ap (read_name place) (unquote-doubled double_quote name rest (name_ends name rest h.longest)) ∙ name_some place name rest h.is

symbol_again : (place : ℕ) (bytes rest : List ℕ) → Stands (Symbol bytes) rest → piece_at place (bytes ++ rest) ≡ Ok (Symbol bytes, rest)
unfolding read_as
symbol_again place bytes rest h =
    let known = symbol_reads bytes h.is rest h.longest in
    read_at place (bytes ++ rest) kind.Symbol known.0
    ∙ ap (λ front. read_symbol place front (bytes ++ rest)) known.1
    ∙ cond-true (is_some (lookup symbols bytes)) _ _ h.is
    ∙ ap (λ b. Ok (Symbol bytes, b)) (drop_at bytes rest (length bytes) refl)

-- a piece that may stand there is read
pub piece_at-spelling : (place : ℕ) (piece : Piece) (rest : List ℕ) → Stands piece rest → piece_at place (spelling piece ++ rest) ≡ Ok (piece, rest)
piece_at-spelling place (Blanks bytes) rest h = blanks_again place bytes rest h
piece_at-spelling place (LineComment line) rest h = line_again place line rest h
piece_at-spelling place (BlockComment inside) rest h = block_again place inside rest h.is
piece_at-spelling place (Word bytes) rest h = word_again place bytes rest h
piece_at-spelling place (Number digits) rest h = number_there place digits rest h.is h.longest ∙ cond-true (is_good_number digits rest) _ _ (test_from_good digits rest h.good)
piece_at-spelling place (QuotedName name) rest h = name_again place name rest h
piece_at-spelling place (QuotedText text) rest h = text_again place text rest h
piece_at-spelling place (Symbol bytes) rest h = symbol_again place bytes rest h

-- and its kind is told
pub kind_at-piece : (piece : Piece) (rest : List ℕ) → Stands piece rest → kind_at (spelling piece ++ rest) ≡ piece_kind piece
kind_at-piece (Blanks bytes) rest h = word_told is_blank is_blank kind.Blanks kind_blanks bytes rest h.is
kind_at-piece (LineComment line) rest h = kind_line (line ++ rest)
kind_at-piece (BlockComment inside) rest h = kind_block (inside ++ rest)
kind_at-piece (Word bytes) rest h = word_told begins_word goes_on_word kind.Word kind_word bytes rest h.is
kind_at-piece (Number digits) rest h = word_told is_digit is_digit kind.Number kind_number digits rest h.is
kind_at-piece (QuotedName name) rest h = kind_name _
kind_at-piece (QuotedText text) rest h = kind_text _
kind_at-piece (Symbol bytes) rest h = (symbol_reads bytes h.is rest h.longest).0

-- ---- each refusal

-- a symbol at the front would be one of one byte or of two
no_front : (n : ℕ) (bytes : List ℕ) → ((symbol more : List ℕ) → IsPiece (Symbol symbol) → bytes ≢ symbol ++ more) → is_some (lookup symbols (take n bytes)) ≡ false
no_front n bytes none = false_from_ne_true _ (λ is. none (take n bytes) (drop n bytes) is (sym (take-append-drop n bytes)))

unknown_told : (k : Kind) (b : ℕ) (bytes : List ℕ) → Says k (b ∷ bytes) → begins_none b ≡ false → ((symbol more : List ℕ) → IsPiece (Symbol symbol) → b ∷ bytes ≢ symbol ++ more) → k ≡ kind.Symbol
unknown_told kind.Blanks b bytes says none no_symbol = absurd (both_ways _ (or_parts _ _ (or_parts _ _ (or_parts _ _ (or_parts _ _ none).0).0).0).0 says)
unknown_told kind.Word b bytes says none no_symbol = absurd (both_ways _ (or_parts _ _ (or_parts _ _ (or_parts _ _ (or_parts _ _ none).0).0).0).1 says)
unknown_told kind.Number b bytes says none no_symbol = absurd (both_ways _ (or_parts _ _ (or_parts _ _ (or_parts _ _ none).0).0).1 says)
unknown_told kind.QuotedText b bytes says none no_symbol = absurd (both_ways _ (or_parts _ _ (or_parts _ _ none).0).1 (eq-eqb b single_quote says))
unknown_told kind.QuotedName b bytes says none no_symbol = absurd (both_ways _ (or_parts _ _ none).1 (eq-eqb b double_quote says))
unknown_told kind.LineComment b bytes says none no_symbol = absurd (no_symbol (45 ∷ []) (45 ∷ drop 2 (b ∷ bytes)) refl (starts_two (b ∷ bytes) 45 45 says))
unknown_told kind.BlockComment b bytes says none no_symbol = absurd (no_symbol (47 ∷ []) (42 ∷ drop 2 (b ∷ bytes)) refl (starts_two (b ∷ bytes) 47 42 says))
unknown_told kind.Symbol b bytes says none no_symbol = refl

unknown_again : (place : ℕ) (bytes : List ℕ) → IsUnknown bytes → piece_at place bytes ≡ Err (UnknownCharacter place)
unfolding read_as
unknown_again place [] h = absurd h
unknown_again place (b ∷ bytes) h =
    read_at place (b ∷ bytes) kind.Symbol (unknown_told (kind_at (b ∷ bytes)) b bytes (kind_says (b ∷ bytes)) h.0 h.1)
    ∙ ap (λ front. read_symbol place front (b ∷ bytes)) (cond-false (is_some (lookup symbols (take 2 (b ∷ bytes)))) _ _ (no_front 2 (b ∷ bytes) h.1))
    ∙ cond-false (is_some (lookup symbols (take 1 (b ∷ bytes)))) _ _ (no_front 1 (b ∷ bytes) h.1)

open_text_again : (place : ℕ) (bytes : List ℕ) → IsRefused (TextNotClosed place) bytes → piece_at place bytes ≡ Err (TextNotClosed place)
unfolding read_as
open_text_again place bytes (rest, whole, opened) =
    ap (piece_at place) whole ∙ read_at place (single_quote ∷ rest) kind.QuotedText (kind_text rest) ∙ ap (read_text place) (unquote-IsOpen single_quote rest opened)

open_name_again : (place : ℕ) (bytes : List ℕ) → IsRefused (NameNotClosed place) bytes → piece_at place bytes ≡ Err (NameNotClosed place)
unfolding read_as
open_name_again place bytes (rest, whole, inl opened) =
    ap (piece_at place) whole ∙ read_at place (double_quote ∷ rest) kind.QuotedName (kind_name rest) ∙ ap (read_name place) (unquote-IsOpen double_quote rest opened)
open_name_again place bytes (rest, whole, inr (more, empty, ends)) =
    ap (piece_at place) whole ∙ read_at place (double_quote ∷ rest) kind.QuotedName (kind_name rest)
    ∙ ap (λ l. read_name place (unquote double_quote l)) empty ∙ ap (read_name place) (unquote-doubled double_quote [] more ends)

bad_number_again : (place : ℕ) (bytes : List ℕ) → IsRefused (BadNumber place) bytes → piece_at place bytes ≡ Err (BadNumber place)
bad_number_again place bytes (digits, rest, whole, is, longest, bad) =
    ap (piece_at place) whole ∙ number_there place digits rest is longest
    ∙ cond-false (is_good_number digits rest) _ _ (false_from_ne_true _ (λ good. bad (good_from_test digits rest good)))

none_ends : (bytes : List ℕ) (found : Option ℕ) → FindsIf 0 2 bytes found → ((inside more : List ℕ) → EndsComment inside → bytes ≢ inside ++ more) → found ≡ None
none_ends bytes None h none = refl
none_ends bytes (Some end) h none = absurd (none h.inside h.rest h.ends h.whole)

open_comment_again : (place : ℕ) (bytes : List ℕ) → IsRefused (CommentNotClosed place) bytes → piece_at place bytes ≡ Err (CommentNotClosed place)
unfolding read_as
open_comment_again place bytes (rest, whole, none) =
    ap (piece_at place) whole ∙ read_at place (codes "/*" ++ rest) kind.BlockComment (kind_block rest)
    ∙ ap (read_comment place (codes "/*" ++ rest)) (none_ends rest (comment_end 0 2 rest) (comment_end_is 0 2 rest) none)

-- where a cause stands, that refusal is given
pub piece_at-refused : (place : ℕ) (e : LexError) (bytes : List ℕ) → place_of e ≡ Some place → IsRefused e bytes → piece_at place bytes ≡ Err e
piece_at-refused place (UnknownCharacter at) bytes there h = let same : place ≡ at = cc in unknown_again place bytes h ∙ ap (λ n. Err (UnknownCharacter n)) same
piece_at-refused place (TextNotClosed at) bytes there h = let same : place ≡ at = cc in open_text_again place bytes h ∙ ap (λ n. Err (TextNotClosed n)) same
piece_at-refused place (NameNotClosed at) bytes there h = let same : place ≡ at = cc in open_name_again place bytes h ∙ ap (λ n. Err (NameNotClosed n)) same
piece_at-refused place (BadNumber at) bytes there h = let same : place ≡ at = cc in bad_number_again place bytes h ∙ ap (λ n. Err (BadNumber n)) same
piece_at-refused place (CommentNotClosed at) bytes there h = let same : place ≡ at = cc in open_comment_again place bytes h ∙ ap (λ n. Err (CommentNotClosed n)) same
piece_at-refused place NotUtf8 bytes there h = absurd h
piece_at-refused place TooLong bytes there h = absurd h
piece_at-refused place OutOfMemory bytes there h = absurd h
