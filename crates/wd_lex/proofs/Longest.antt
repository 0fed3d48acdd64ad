-- Where pieces end: what a longer piece of the kind would have next.
use Rattle.std.proofs.Common.{◌≡◌, ℕ, ◌+◌, ◌<◌, ◌≤◌, Bool, true, false, ◌&&◌, List, [], ◌∷◌, ◌++◌, length, drop, codes, Option, Some, None, is_some, refl, sym, ap, ◌∙◌, subst, arith, append_assoc, length-append}
use Rattle.std.proofs.lemmas.Bool.{and_parts, both_ways}
use Rattle.std.specs.List.{list_all}
use Rattle.wd_lex.specs.declared.pieces.Kind.{Kind}
use Rattle.wd_lex.specs.declared.pieces.Kind.TheVariants as kind
use Rattle.wd_lex.specs.declared.characters.Class.TheVariants as class
use Rattle.wd_lex.specs.Characters.{is_blank, is_digit, begins_word, goes_on_word, single_quote, double_quote}
use Rattle.wd_lex.specs.Terminals.{lookup, symbols}
use Rattle.wd_lex.specs.Pieces.{Piece, Blanks, LineComment, BlockComment, Word, Number, QuotedName, QuotedText, Symbol, EndsComment, spelling, IsPiece, IsLongest, IsRunOf, in_quotes, doubled}
use Rattle.wd_lex.specs.Causes.{BeginsWith}
use Rattle.wd_lex.specs.Reading.{kind_at, is_in, unquote}
use Rattle.wd_lex.proofs.RunFacts.{Stops}
use Rattle.wd_lex.proofs.QuoteFacts.{unquote-doubled}
use Rattle.wd_lex.proofs.CommentFacts.{EndsComment_longer}
use Rattle.wd_lex.proofs.SymbolFacts.{symbol_short}
use Rattle.wd_lex.proofs.KindFacts.{piece_kind, kind_at-spelling, kind_at_front, spelling_some, word_goes_on}

all_next : (p : ℕ → Bool) (bytes : List ℕ) (next : ℕ) (more : List ℕ) → list_all p (bytes ++ next ∷ more) ≡ true → p next ≡ true
all_next p [] next more e = (and_parts (p next) (list_all p more) e).0
all_next p (b ∷ bytes) next more e = all_next p bytes next more (and_parts (p b) (list_all p (bytes ++ next ∷ more)) e).1

pub word_all : (begins goes_on : ℕ → Bool) → ((b : ℕ) → begins b ≡ true → goes_on b ≡ true) → (bytes : List ℕ) → IsRunOf begins goes_on bytes → list_all goes_on bytes ≡ true
word_all begins goes_on within [] is = absurd is
word_all begins goes_on within (b ∷ bytes) is = ap (λ t. t && list_all goes_on bytes) (within b is.0) ∙ is.1

-- a piece goes on neither in its kind nor in another
pub longest_by : (piece : Piece) (rest : List ℕ) (k : Kind) → IsPiece piece → kind_at (spelling piece ++ rest) ≡ k
    → ((next : ℕ) (after more : List ℕ) (longer : Piece) → rest ≡ next ∷ after → IsPiece longer → piece_kind longer ≡ k → spelling longer ≡ spelling piece ++ next ∷ more → ⊥)
    → IsLongest piece rest
longest_by piece [] k is told no_longer = tt
longest_by piece (next ∷ rest) k is told no_longer = λ longer more longer_is same.
    no_longer next rest more longer refl longer_is
    (sym (kind_at-spelling longer longer_is) ∙ ap kind_at same ∙ kind_at_front (spelling piece) next more rest (spelling_some piece is) ∙ told) same

-- ---- what a longer piece of each kind has next

blanks_next : (bytes more : List ℕ) (next : ℕ) (longer : Piece) → IsPiece longer → piece_kind longer ≡ kind.Blanks → spelling longer ≡ bytes ++ next ∷ more → is_blank next ≡ true
blanks_next bytes more next (Blanks longer) is told same = all_next is_blank bytes next more (rw (← same) (word_all is_blank is_blank (λ b e. e) longer is))
blanks_next bytes more next _ is told same = absurd cc

word_next : (bytes more : List ℕ) (next : ℕ) (longer : Piece) → IsPiece longer → piece_kind longer ≡ kind.Word → spelling longer ≡ bytes ++ next ∷ more → goes_on_word next ≡ true
word_next bytes more next (Word longer) is told same = all_next goes_on_word bytes next more (rw (← same) (word_all begins_word goes_on_word word_goes_on longer is))
word_next bytes more next _ is told same = absurd cc

number_next : (bytes more : List ℕ) (next : ℕ) (longer : Piece) → IsPiece longer → piece_kind longer ≡ kind.Number → spelling longer ≡ bytes ++ next ∷ more → is_digit next ≡ true
number_next bytes more next (Number longer) is told same = all_next is_digit bytes next more (rw (← same) (word_all is_digit is_digit (λ b e. e) longer is))
number_next bytes more next _ is told same = absurd cc

line_next : (line more : List ℕ) (next : ℕ) (longer : Piece) → IsPiece longer → piece_kind longer ≡ kind.LineComment → spelling longer ≡ codes "--" ++ line ++ next ∷ more → is_in class.Line next ≡ true
line_next line more next (LineComment longer) is told same =
    let tails : longer ≡ line ++ next ∷ more = ap (drop 2) same in all_next (is_in class.Line) line next more (rw (← tails) is)
line_next line more next _ is told same = absurd cc

block_next : (inside more : List ℕ) (next : ℕ) (longer : Piece) → EndsComment inside → IsPiece longer → piece_kind longer ≡ kind.BlockComment → spelling longer ≡ codes "/*" ++ inside ++ next ∷ more → ⊥
block_next inside more next (BlockComment longer) ends is told same =
    let tails : longer ≡ inside ++ next ∷ more = ap (drop 2) same in EndsComment_longer inside next more ends (rw (← tails) is)
block_next inside more next _ ends is told same = absurd cc

-- what follows the quotes
abbrev rest_in : Option (List ℕ × List ℕ) → List ℕ
rest_in None = []
rest_in (Some found) = found.1

-- closed quotes go on only with another quote
pub quotes_next : (q : ℕ) (inside longer more : List ℕ) (next : ℕ) → ¬ (next ≡ q) → in_quotes q longer ≡ in_quotes q inside ++ next ∷ more → ⊥
quotes_next q inside longer more next other same =
    let e₁ : unquote q (doubled q longer ++ q ∷ []) ≡ Some (longer, []) = unquote-doubled q longer [] (λ h. h) in
    let e₂ : unquote q (doubled q inside ++ q ∷ next ∷ more) ≡ Some (inside, next ∷ more) = unquote-doubled q inside (next ∷ more) other in
    let tails : doubled q longer ++ q ∷ [] ≡ doubled q inside ++ q ∷ next ∷ more = ap (drop 1) same ∙ append_assoc (doubled q inside) (q ∷ []) (next ∷ more) in
    let rests : [] ≡ next ∷ more = ap rest_in (sym e₁ ∙ ap (unquote q) tails ∙ e₂) in cc

name_next : (inside more : List ℕ) (next : ℕ) (longer : Piece) → ¬ (next ≡ double_quote) → piece_kind longer ≡ kind.QuotedName → spelling longer ≡ in_quotes double_quote inside ++ next ∷ more → ⊥
name_next inside more next (QuotedName longer) other told same = quotes_next double_quote inside longer more next other same
name_next inside more next _ other told same = absurd cc

text_next : (inside more : List ℕ) (next : ℕ) (longer : Piece) → ¬ (next ≡ single_quote) → piece_kind longer ≡ kind.QuotedText → spelling longer ≡ in_quotes single_quote inside ++ next ∷ more → ⊥
text_next inside more next (QuotedText longer) other told same = quotes_next single_quote inside longer more next other same
text_next inside more next _ other told same = absurd cc

-- ---- so each piece is as long as it can be

pub blanks_longest : (bytes rest : List ℕ) → IsPiece (Blanks bytes) → kind_at (bytes ++ rest) ≡ kind.Blanks → Stops is_blank rest → IsLongest (Blanks bytes) rest
blanks_longest bytes rest is told stops = longest_by (Blanks bytes) rest kind.Blanks is told
    (λ next after more longer e longer_is k same. both_ways (is_blank next) (subst (Stops is_blank) e stops) (blanks_next bytes more next longer longer_is k same))

pub word_longest : (bytes rest : List ℕ) → IsPiece (Word bytes) → kind_at (bytes ++ rest) ≡ kind.Word → Stops goes_on_word rest → IsLongest (Word bytes) rest
word_longest bytes rest is told stops = longest_by (Word bytes) rest kind.Word is told
    (λ next after more longer e longer_is k same. both_ways (goes_on_word next) (subst (Stops goes_on_word) e stops) (word_next bytes more next longer longer_is k same))

pub number_longest : (bytes rest : List ℕ) → IsPiece (Number bytes) → kind_at (bytes ++ rest) ≡ kind.Number → Stops is_digit rest → IsLongest (Number bytes) rest
number_longest bytes rest is told stops = longest_by (Number bytes) rest kind.Number is told
    (λ next after more longer e longer_is k same. both_ways (is_digit next) (subst (Stops is_digit) e stops) (number_next bytes more next longer longer_is k same))

pub line_longest : (line rest : List ℕ) → IsPiece (LineComment line) → kind_at (codes "--" ++ line ++ rest) ≡ kind.LineComment → Stops (is_in class.Line) rest → IsLongest (LineComment line) rest
line_longest line rest is told stops = longest_by (LineComment line) rest kind.LineComment is told
    (λ next after more longer e longer_is k same. both_ways (is_in class.Line next) (subst (Stops (is_in class.Line)) e stops) (line_next line more next longer longer_is k same))

pub block_longest : (inside rest : List ℕ) → EndsComment inside → kind_at (codes "/*" ++ inside ++ rest) ≡ kind.BlockComment → IsLongest (BlockComment inside) rest
block_longest inside rest ends told = longest_by (BlockComment inside) rest kind.BlockComment ends told
    (λ next after more longer e longer_is k same. block_next inside more next longer ends longer_is k same)

not_next : (q next : ℕ) (rest after : List ℕ) → ¬ (BeginsWith q rest) → rest ≡ next ∷ after → ¬ (next ≡ q)
not_next q next rest after ends e = subst (λ l. ¬ (BeginsWith q l)) e ends

pub name_longest : (name rest : List ℕ) → IsPiece (QuotedName name) → kind_at (in_quotes double_quote name ++ rest) ≡ kind.QuotedName → ¬ (BeginsWith double_quote rest) → IsLongest (QuotedName name) rest
name_longest name rest is told ends = longest_by (QuotedName name) rest kind.QuotedName is told
    (λ next after more longer e longer_is k same. name_next name more next longer (not_next double_quote next rest after ends e) k same)

pub text_longest : (text rest : List ℕ) → kind_at (in_quotes single_quote text ++ rest) ≡ kind.QuotedText → ¬ (BeginsWith single_quote rest) → IsLongest (QuotedText text) rest
text_longest text rest told ends = longest_by (QuotedText text) rest kind.QuotedText tt told
    (λ next after more longer e longer_is k same. text_next text more next longer (not_next single_quote next rest after ends e) k same)

-- a symbol of one byte that is the front of none
symbol_next : (bytes after more : List ℕ) (next : ℕ) (longer : Piece) → IsPiece longer → piece_kind longer ≡ kind.Symbol → spelling longer ≡ bytes ++ next ∷ more → 0 < length bytes
    → (more ≡ []) × (length bytes ≡ 1) × (is_some (lookup symbols (bytes ++ next ∷ [])) ≡ true)
symbol_next bytes after more next (Symbol longer) is told same some =
    let short = symbol_short longer is in
    let e₁ : length bytes + length (next ∷ more) ≤ 2 = omega (arith, short.most, ap length same, length-append bytes (next ∷ more)) in
    let e₂ : length more ≡ 0 = omega arith in
    let none : more ≡ [] = nil_of more e₂ in
    (none, omega arith, ap (λ l. is_some (lookup symbols l)) (ap (λ l. bytes ++ next ∷ l) (sym none) ∙ sym same) ∙ is)
  where
    nil_of : (l : List ℕ) → length l ≡ 0 → l ≡ []
    nil_of [] e = refl
    nil_of (b ∷ l) e = absurd (omega arith)
symbol_next bytes after more next _ is told same some = absurd cc

-- a symbol in which the next byte would make another, unless it is two bytes long
abbrev pub IsAlone : List ℕ → List ℕ → Type 0
IsAlone bytes [] = Unit {0}
IsAlone bytes (next ∷ rest) = length bytes ≡ 1 → is_some (lookup symbols (bytes ++ next ∷ [])) ≡ false

pub symbol_longest : (bytes rest : List ℕ) → IsPiece (Symbol bytes) → kind_at (bytes ++ rest) ≡ kind.Symbol → IsAlone bytes rest → IsLongest (Symbol bytes) rest
symbol_longest bytes rest is told alone = longest_by (Symbol bytes) rest kind.Symbol is told
    (λ next after more longer e longer_is k same.
    let known = symbol_next bytes after more next longer longer_is k same (spelling_some (Symbol bytes) is) in
    both_ways (is_some (lookup symbols (bytes ++ next ∷ []))) (subst (IsAlone bytes) e alone known.1) known.2)
