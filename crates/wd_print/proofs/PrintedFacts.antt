-- Printed tokens are read as just these.
use Rattle.std.proofs.Common.{◌≡◌, ℕ, ◌+◌, ◌<◌, ◌≤◌, true, false, nat_eq, ◌&&◌, List, [], ◌∷◌, ◌++◌, length, drop, take, decimal, Some, All, refl, sym, ap, ◌∙◌, subst, arith, lit<, append_assoc, append-nil}
use Rattle.std.proofs.lemmas.Bool.{cond-false}
use Rattle.std.proofs.lemmas.Bool.Decides.{nat_tests}
use Rattle.std.proofs.lemmas.List.Elements.{All-head, All-tail}
use lib.Pointwise.{pointwise}
use Rattle.std.specs.List.{starts_with}
use Rattle.wd_lex.specs.declared.token.Terminal.{Terminal}
use Rattle.wd_lex.specs.declared.token.Terminal.TheVariants as m
use Rattle.wd_lex.specs.declared.token.TokenKind.{TokenKind}
use Rattle.wd_lex.specs.declared.token.TokenKind.TheVariants as k
use Rattle.wd_lex.specs.Characters.{is_blank, begins_word, goes_on_word}
use Rattle.wd_lex.specs.Lexed.{byte_order_mark, kinds_of, start_of, token_before, tokens_from}
use Rattle.wd_lex.specs.Pieces.{Piece, Blanks, ArePieces, IsRunOf, Stands, greatest_number, kind_of, spelling, spellings, word_kind}
use Rattle.wd_lex.specs.Terminals.{lookup, reserved_words}
use Rattle.wd_lex.proofs.KindFacts.{kind_blanks, kind_name, kind_text}
use Rattle.wd_lex.proofs.Longest.{blanks_longest, name_longest, text_longest}
use Rattle.wd_lex.proofs.RunFacts.{Stops}
use Rattle.wd_print.specs.Printed.{IsPrintable, PrintedIsRead, gap, gap_after, piece_of, printed}
use Rattle.wd_print.proofs.NumberFacts.{digits_first, digits_stand, digits_stop, number_is, number_run}
use Rattle.wd_print.proofs.TerminalFacts.{BeginsInAscii, terminal_good, word_stands}

-- a token's piece, which its white space ends, and which is no white space
record IsGoodPiece (kind : TokenKind) (rest : List ℕ) : Type 0 where
  stands : Stands (piece_of kind) (gap kind ∷ rest)
  kind_is : kind_of (piece_of kind) ≡ Some kind
  stops : (more : List ℕ) → Stops is_blank (spelling (piece_of kind) ++ more)

begins_no_blank : (b : ℕ) → begins_word b ≡ true → is_blank b ≡ false
begins_no_blank b e = grind (arith, nat_tests)

word_stops : (word more : List ℕ) → IsRunOf begins_word goes_on_word word → Stops is_blank (word ++ more)
word_stops [] more run = absurd run
word_stops (b ∷ word) more run = begins_no_blank b run.0

name_some : (name : List ℕ) → 0 < length name → name ≡ [] → ⊥
name_some name some e = absurd (omega (arith, ap length e))

piece_good : (kind : TokenKind) (rest : List ℕ) → IsPrintable kind → IsGoodPiece kind rest
piece_good (k.Terminal terminal) rest printable =
    let good = terminal_good terminal rest in record { stands = good.stands; kind_is = good.kind_is; stops = good.stops }
piece_good (k.Word word) rest printable = record {
  stands = word_stands word 32 rest printable.run refl;
  kind_is = ap (λ w. Some (word_kind w (lookup reserved_words w))) printable.lower ∙ ap (λ found. Some (word_kind word found)) printable.free;
  stops = λ more. word_stops word more printable.run;
}
piece_good (k.Quoted name) rest printable = record {
  stands = record {
    is = name_some name printable;
    longest = name_longest name (32 ∷ rest) (name_some name printable) (kind_name _) (λ e. absurd (omega arith));
    good = tt;
  };
  kind_is = refl;
  stops = λ more. refl;
}
piece_good (k.Literal text) rest printable = record {
  stands = record { is = tt; longest = text_longest text (32 ∷ rest) (kind_text _) (λ e. absurd (omega arith)); good = tt };
  kind_is = refl;
  stops = λ more. refl;
}
piece_good (k.Number number) rest printable = let run = number_run number printable in record {
  stands = digits_stand (decimal number) rest run (subst (λ n. n ≤ greatest_number) (sym (number_is number printable)) printable);
  kind_is = ap (λ n. Some (k.Number n)) (number_is number printable);
  stops = λ more. digits_stop (decimal number) more run;
}

-- the white space after a terminal
terminal_gap : (terminal : Terminal) → is_blank (gap_after terminal) ≡ true
unfolding gap_after
terminal_gap m.All = refl
terminal_gap m.And = refl
terminal_gap m.As = refl
terminal_gap m.Asc = refl
terminal_gap m.By = refl
terminal_gap m.Case = refl
terminal_gap m.Constraint = refl
terminal_gap m.Create = refl
terminal_gap m.Cross = refl
terminal_gap m.Desc = refl
terminal_gap m.Distinct = refl
terminal_gap m.Else = refl
terminal_gap m.End = refl
terminal_gap m.False = refl
terminal_gap m.Fetch = refl
terminal_gap m.From = refl
terminal_gap m.Full = refl
terminal_gap m.Group = refl
terminal_gap m.Groups = refl
terminal_gap m.Having = refl
terminal_gap m.Inner = refl
terminal_gap m.Is = refl
terminal_gap m.IsNull = refl
terminal_gap m.Join = refl
terminal_gap m.Left = refl
terminal_gap m.Limit = refl
terminal_gap m.Natural = refl
terminal_gap m.Not = refl
terminal_gap m.NotNull = refl
terminal_gap m.Null = refl
terminal_gap m.Offset = refl
terminal_gap m.On = refl
terminal_gap m.Or = refl
terminal_gap m.Order = refl
terminal_gap m.Outer = refl
terminal_gap m.Over = refl
terminal_gap m.Partition = refl
terminal_gap m.Primary = refl
terminal_gap m.Range = refl
terminal_gap m.Right = refl
terminal_gap m.Rows = refl
terminal_gap m.Select = refl
terminal_gap m.Table = refl
terminal_gap m.Then = refl
terminal_gap m.True = refl
terminal_gap m.Union = refl
terminal_gap m.Unique = refl
terminal_gap m.Using = refl
terminal_gap m.When = refl
terminal_gap m.Where = refl
terminal_gap m.Window = refl
terminal_gap m.With = refl
terminal_gap m.LeftBracket = refl
terminal_gap m.RightBracket = refl
terminal_gap m.Comma = refl
terminal_gap m.Dot = refl
terminal_gap m.Semicolon = refl
terminal_gap m.Star = refl
terminal_gap m.Plus = refl
terminal_gap m.Minus = refl
terminal_gap m.Slash = refl
terminal_gap m.Percent = refl
terminal_gap m.Equals = refl
terminal_gap m.NotEquals = refl
terminal_gap m.Less = refl
terminal_gap m.LessOrEqual = refl
terminal_gap m.Greater = refl
terminal_gap m.GreaterOrEqual = refl

-- the white space after a token
gap_blank : (kind : TokenKind) → is_blank (gap kind) ≡ true
unfolding gap_after
gap_blank (k.Terminal terminal) = terminal_gap terminal
gap_blank (k.Word word) = refl
gap_blank (k.Quoted name) = refl
gap_blank (k.Literal text) = refl
gap_blank (k.Number number) = refl

blank_stands : (b : ℕ) (rest : List ℕ) → is_blank b ≡ true → Stops is_blank rest → Stands (Blanks (b ∷ [])) rest
blank_stands b rest blank stops =
    record { is = (blank, refl); longest = blanks_longest (b ∷ []) rest (blank, refl) (kind_blanks b rest blank) stops; good = tt }

-- the pieces of printed tokens
abbrev pieces_of : List TokenKind → List Piece
pieces_of [] = []
pieces_of (kind ∷ kinds) = piece_of kind ∷ Blanks (gap kind ∷ []) ∷ pieces_of kinds

pieces_spell : (kinds : List TokenKind) → spellings (pieces_of kinds) ≡ printed kinds
pieces_spell [] = refl
pieces_spell (kind ∷ kinds) = ap (λ l. spelling (piece_of kind) ++ gap kind ∷ l) (pieces_spell kinds) ∙ sym (append_assoc (spelling (piece_of kind)) (gap kind ∷ []) (printed kinds))

pieces_stop : (kinds : List TokenKind) → All IsPrintable kinds → Stops is_blank (spellings (pieces_of kinds) ++ [])
pieces_stop [] printable = tt
pieces_stop (kind ∷ kinds) printable =
    let first = All-head IsPrintable kind kinds printable in
    subst (Stops is_blank) (sym (append_assoc (spelling (piece_of kind)) (gap kind ∷ spellings (pieces_of kinds)) [])) ((piece_good kind [] first).stops (gap kind ∷ spellings (pieces_of kinds) ++ []))

pieces_are : (kinds : List TokenKind) → All IsPrintable kinds → ArePieces (pieces_of kinds) []
pieces_are [] printable = tt
pieces_are (kind ∷ kinds) printable =
    let rest = spellings (pieces_of kinds) ++ [] in
    let others = All-tail IsPrintable kind kinds printable in
    let stands : Stands (piece_of kind) (gap kind ∷ rest) = (piece_good kind rest (All-head IsPrintable kind kinds printable)).stands in
    (stands, (blank_stands (gap kind) rest (gap_blank kind) (pieces_stop kinds others), pieces_are kinds others))

kinds_are : (start : ℕ) (kinds : List TokenKind) → All IsPrintable kinds → kinds_of (tokens_from start (pieces_of kinds)) ≡ kinds
kinds_are start [] printable = refl
kinds_are start (kind ∷ kinds) printable =
    let end = start + length (spelling (piece_of kind)) in
    let rest = tokens_from (end + 1) (pieces_of kinds) in
    ap (λ found. kinds_of (token_before found (record { start = start; end = end }) rest)) (piece_good kind [] (All-head IsPrintable kind kinds printable)).kind_is ∙ ap (λ l. kind ∷ l) (kinds_are (end + 1) kinds (All-tail IsPrintable kind kinds printable))

-- no byte order mark stands before a token
word_byte : (b : ℕ) → begins_word b ≡ true → b < 128
word_byte b e = grind (arith, nat_tests)

first_of : (kind : TokenKind) (more : List ℕ) → IsPrintable kind → BeginsInAscii (spelling (piece_of kind) ++ more)
first_of (k.Terminal terminal) more printable = (terminal_good terminal []).ascii more
first_of (k.Word (b ∷ word)) more printable = word_byte b printable.run.0
first_of (k.Word []) more printable = absurd printable.run
first_of (k.Quoted name) more printable = lit< tt
first_of (k.Literal text) more printable = lit< tt
first_of (k.Number number) more printable = digits_first (decimal number) more (number_run number printable)

no_mark_first : (text : List ℕ) → BeginsInAscii text → start_of text ≡ 0
no_mark_first [] first = refl
no_mark_first (b ∷ text) first =
    let other : nat_eq 239 b ≡ false = grind (arith, nat_tests) in
    let starts : starts_with nat_eq (b ∷ text) byte_order_mark ≡ false = ap (λ t. t && pointwise nat_eq (187 ∷ 191 ∷ []) (take 2 text)) other in
    cond-false {A = ℕ} (starts_with nat_eq (b ∷ text) byte_order_mark) 3 0 starts

printed_first : (kinds : List TokenKind) → All IsPrintable kinds → BeginsInAscii (printed kinds)
printed_first [] printable = tt
printed_first (kind ∷ kinds) printable =
    subst BeginsInAscii (sym (append_assoc (spelling (piece_of kind)) (gap kind ∷ []) (printed kinds))) (first_of kind (gap kind ∷ printed kinds) (All-head IsPrintable kind kinds printable))

pub printed_is_read : PrintedIsRead
printed_is_read kinds printable readable = record {
  tokens = tokens_from (start_of (printed kinds)) (pieces_of kinds);
  lexed = record {
    readable = readable;
    pieces = pieces_of kinds;
    cut = record { whole = ap (λ n. drop n (printed kinds)) (no_mark_first (printed kinds) (printed_first kinds printable)) ∙ sym (pieces_spell kinds) ∙ sym (append-nil (spellings (pieces_of kinds))); each = pieces_are kinds printable };
    are = refl;
  };
  are = kinds_are (start_of (printed kinds)) kinds printable;
}
