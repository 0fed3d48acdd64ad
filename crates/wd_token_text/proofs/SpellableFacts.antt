-- Each token that the lexer reads has a spelling.
use Rattle.std.proofs.Common.{◌≡◌, ◌≢◌, ℕ, ◌+◌, ◌<◌, ◌≤◌, true, List, [], ◌∷◌, length, map, Option, Some, None, All, IfSome, refl, sym, ap₂, subst, arith}
use Rattle.std.proofs.lemmas.Bool.{and_parts, and_from}
use Rattle.std.proofs.lemmas.Bool.Decides.{nat_tests}
use Rattle.std.proofs.lemmas.List.Elements.{All-nil, All-cons}
use Rattle.std.proofs.lemmas.Str.Ascii.{lowercase-lowercase}
use Rattle.std.specs.Char.{to_ascii_lowercase}
use Rattle.std.specs.List.{list_all}
use Rattle.std.specs.Option.{option_map}
use Rattle.std.specs.Str.Parse.{digits_value}
use Rattle.wd_lex.specs.declared.token.Span.{Span}
use Rattle.wd_lex.specs.declared.token.Terminal.{Terminal}
use Rattle.wd_lex.specs.declared.token.Token.{Token}
use Rattle.wd_lex.specs.declared.token.TokenKind.{TokenKind}
use Rattle.wd_lex.specs.declared.token.TokenKind.TheVariants as k
use Rattle.wd_lex.specs.Characters.{begins_word, goes_on_word}
use Rattle.wd_lex.specs.Lexed.{start_of, token_before, tokens_from}
use Rattle.wd_lex.specs.Pieces.{Piece, Blanks, LineComment, BlockComment, Word, Number, QuotedName, QuotedText, Symbol, ArePieces, IsGoodNumber, IsRunOf, Stands, greatest_number, kind_of, spelling, word_kind}
use Rattle.wd_lex.specs.Terminals.{lookup, reserved_words, symbols}
use Rattle.wd_print.specs.Printed.{IsPrintable}
use Rattle.wd_token_text.specs.Texts.{IsSpellable, LexedAreSpellable}

-- ---- a word in lower case is a word

lower_begins : (b : ℕ) → begins_word b ≡ true → begins_word (to_ascii_lowercase b) ≡ true
lower_begins b e = grind (arith, nat_tests)

lower_goes_on : (b : ℕ) → goes_on_word b ≡ true → goes_on_word (to_ascii_lowercase b) ≡ true
lower_goes_on b e = grind (arith, nat_tests)

lower_all : (bytes : List ℕ) → list_all goes_on_word bytes ≡ true → list_all goes_on_word (map to_ascii_lowercase bytes) ≡ true
lower_all [] all = refl
lower_all (b ∷ bytes) all =
    let parts = and_parts (goes_on_word b) (list_all goes_on_word bytes) all in
    and_from (goes_on_word (to_ascii_lowercase b)) (list_all goes_on_word (map to_ascii_lowercase bytes)) (lower_goes_on b parts.0) (lower_all bytes parts.1)

lower_run : (bytes : List ℕ) → IsRunOf begins_word goes_on_word bytes → IsRunOf begins_word goes_on_word (map to_ascii_lowercase bytes)
lower_run [] run = run
lower_run (b ∷ bytes) run = (lower_begins b run.0, lower_all bytes run.1)

lower_lower : (bytes : List ℕ) → map to_ascii_lowercase (map to_ascii_lowercase bytes) ≡ map to_ascii_lowercase bytes
lower_lower [] = refl
lower_lower (b ∷ bytes) = ap₂ (λ c l. c ∷ l) (lowercase-lowercase b) (lower_lower bytes)

-- ---- the token that a piece is

word_printable : (word : List ℕ) (found : Option Terminal) → lookup reserved_words word ≡ found → IsRunOf begins_word goes_on_word word → map to_ascii_lowercase word ≡ word
    → IsPrintable (word_kind word found)
word_printable word (Some terminal) is run lower = tt
word_printable word None is run lower = record { run = run; lower = lower; free = is }

symbol_printable : (found : Option Terminal) → IfSome (option_map k.Terminal found) IsPrintable
symbol_printable (Some terminal) = tt
symbol_printable None = tt

number_small : (digits rest : List ℕ) → IsGoodNumber digits rest → digits_value 10 digits ≤ greatest_number
number_small digits [] good = good
number_small digits (next ∷ rest) good = good.0

name_some : (name : List ℕ) → name ≢ [] → 0 < length name
name_some [] some = absurd (some refl)
name_some (b ∷ name) some = omega arith

piece_printable : (piece : Piece) (rest : List ℕ) → Stands piece rest → IfSome (kind_of piece) IsPrintable
piece_printable (Blanks bytes) rest stands = tt
piece_printable (LineComment line) rest stands = tt
piece_printable (BlockComment bytes) rest stands = tt
piece_printable (Word bytes) rest stands =
    let word = map to_ascii_lowercase bytes in word_printable word (lookup reserved_words word) refl (lower_run bytes stands.is) (lower_lower bytes)
piece_printable (Number digits) rest stands = number_small digits rest stands.good
piece_printable (QuotedName name) rest stands = name_some name stands.is
piece_printable (QuotedText text) rest stands = tt
piece_printable (Symbol bytes) rest stands = symbol_printable (lookup symbols bytes)

-- ---- and those of a text

before_spellable : (found : Option TokenKind) (span : Span) (tokens : List Token) → IfSome found IsPrintable → All IsSpellable tokens → All IsSpellable (token_before found span tokens)
before_spellable None span tokens first others = others
before_spellable (Some kind) span tokens first others = All-cons IsSpellable (record { kind = kind; span = span }) tokens first others

from_spellable : (start : ℕ) (pieces : List Piece) (rest : List ℕ) → ArePieces pieces rest → All IsSpellable (tokens_from start pieces)
from_spellable start [] rest are = All-nil IsSpellable
from_spellable start (piece ∷ pieces) rest are =
    let end = start + length (spelling piece) in
    before_spellable (kind_of piece) (record { start = start; end = end }) (tokens_from end pieces) (piece_printable piece _ are.0) (from_spellable end pieces rest are.1)

pub lexed_are_spellable : LexedAreSpellable
lexed_are_spellable text tokens lexed =
    subst (All IsSpellable) (sym lexed.are) (from_spellable (start_of text) lexed.pieces [] lexed.cut.each)
