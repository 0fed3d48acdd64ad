-- Where a text may be cut: after a run.
use Rattle.std.proofs.Common.{◌≡◌, ℕ, zero, suc, ◌+◌, ◌-◌, ◌<◌, Bool, true, false, List, [], ◌∷◌, ◌++◌, length, take, drop, get_or, codes, nat_eq, Option, Some, None, is_some, IsUtf8, IsCharBoundary, append_assoc, append-nil, length-append, ⊎_elim, refl, sym, ap, ◌∙◌, subst, arith}
use Rattle.std.proofs.lemmas.Bool.{cases_lt, cond_both, and_parts}
use Rattle.std.proofs.lemmas.Bool.Decides.{nat_tests}
use Rattle.std.proofs.lemmas.List.Sums.{prefix_len_passes, prefix_len_stops, prefix_len-le-length}
use Rattle.std.proofs.lemmas.Str.{IsCharBoundary-start, IsCharBoundary-end, IsCharBoundary-before_ascii, IsCharBoundary-after_ascii, IsUtf8-drop}
use Rattle.std.proofs.lemmas.List.{get_or_at, drop_at}
use Rattle.std.specs.List.{prefix_len, starts_with, list_all}
use Rattle.wd_lex.specs.declared.characters.Class.{Class}
use Rattle.wd_lex.specs.declared.characters.Class.TheVariants as class
use Rattle.wd_lex.specs.Terminals.{lookup, symbols}
use Rattle.wd_lex.specs.Characters.{is_blank, is_digit, begins_word, goes_on_word, single_quote, double_quote}
use Rattle.wd_lex.specs.Pieces.{Piece, Blanks, LineComment, BlockComment, Word, Number, QuotedName, QuotedText, Symbol, EndsComment, closing, character, comment, spelling, IsRunOf, Stands, in_quotes, doubled}
use Rattle.wd_lex.specs.Reading.{is_in, comment_end, symbol_front}
use Rattle.wd_lex.proofs.CommentFacts.{FindsIf, comment_end_is}
use Rattle.wd_lex.proofs.SymbolFacts.{each_spelling}
use Rattle.wd_lex.proofs.KindFacts.{starts_two, word_goes_on}
use Rattle.wd_lex.proofs.RunFacts.{Stops}
use Rattle.wd_lex.proofs.CompleteReading.{line_stops}

-- after ASCII
after_passing : (p : ℕ → Bool) (text : List ℕ) → IsUtf8 text → ((b : ℕ) → p b ≡ true → b < 128) → (n : ℕ) → n ≡ prefix_len p text → IsCharBoundary text n
after_passing p text utf8 ascii n e = ⊎_elim
    (λ some.
    let last : n - 1 < prefix_len p text = omega (arith, e) in
    let within : n - 1 < length text = omega (arith, prefix_len-le-length p text) in
    let back : n - 1 + 1 ≡ n = omega arith in
    subst (IsCharBoundary text) back (IsCharBoundary-after_ascii text (n - 1) utf8 within (ascii (get_or text (n - 1) 0) (prefix_len_passes p text (n - 1) 0 last))))
    (λ none. let zero_is : 0 ≡ n = omega arith in subst (IsCharBoundary text) zero_is (IsCharBoundary-start text utf8))
    (cases_lt 0 n)

-- before ASCII, or at the end
before_failing : (p : ℕ → Bool) (text : List ℕ) → ((b : ℕ) → p b ≡ false → b < 128) → (n : ℕ) → n ≡ prefix_len p text → IsCharBoundary text n
before_failing p text ascii n e = ⊎_elim
    (λ within. IsCharBoundary-before_ascii text n within
    (ascii (get_or text n 0) (subst (λ k. p (get_or text k 0) ≡ false) (sym e) (prefix_len_stops p text 0 (omega (arith, e))))))
    (λ past. let end : length text ≡ n = omega (arith, e, prefix_len-le-length p text) in subst (IsCharBoundary text) end (IsCharBoundary-end text))
    (cases_lt n (length text))

pub boundary_after_run : (c : Class) (text : List ℕ) → IsUtf8 text → (n : ℕ) → n ≡ prefix_len (is_in c) text → IsCharBoundary text n
boundary_after_run class.Blank text utf8 n e = after_passing (is_in class.Blank) text utf8 (λ b passes. grind (arith, nat_tests)) n e
boundary_after_run class.Line text utf8 n e = before_failing (is_in class.Line) text (λ b fails. grind (arith, nat_tests)) n e
boundary_after_run class.Word text utf8 n e = after_passing (is_in class.Word) text utf8 (λ b passes. grind (arith, nat_tests)) n e
boundary_after_run class.Digit text utf8 n e = after_passing (is_in class.Digit) text utf8 (λ b passes. grind (arith, nat_tests)) n e

-- ---- after pieces that end in ASCII

pub record EndsInAscii (bytes : List ℕ) : Type 0 where
  pub front : List ℕ
  pub last : ℕ
  pub whole : bytes ≡ front ++ last ∷ []
  pub ascii : last < 128

pub boundary_after : (text bytes rest : List ℕ) → IsUtf8 text → text ≡ bytes ++ rest → EndsInAscii bytes → (n : ℕ) → n ≡ length bytes → IsCharBoundary text n
boundary_after text bytes rest utf8 whole h n e =
    let parts : text ≡ h.front ++ h.last ∷ rest = whole ∙ ap (λ l. l ++ rest) h.whole ∙ append_assoc h.front (h.last ∷ []) rest in
    let there : get_or text (length h.front) 0 ≡ h.last = ap (λ l. get_or l (length h.front) 0) parts ∙ get_or_at h.front h.last rest 0 (length h.front) refl in
    let end : length h.front + 1 ≡ n = omega (arith, e, ap length h.whole, length-append h.front (h.last ∷ [])) in
    let within : length h.front < length text = omega (arith, ap length parts, length-append h.front (h.last ∷ rest)) in
    subst (IsCharBoundary text) end (IsCharBoundary-after_ascii text (length h.front) utf8 within (subst (λ b. b < 128) (sym there) h.ascii))

pub comment_ends : (inside : List ℕ) → EndsComment inside → EndsInAscii inside
comment_ends inside closing = record { front = 42 ∷ []; last = 47; whole = refl; ascii = omega arith }
comment_ends inside (character b c bytes no_open no_close ends) =
    let h = comment_ends (c ∷ bytes) ends in record { front = b ∷ h.front; last = h.last; whole = ap (λ l. b ∷ l) h.whole; ascii = h.ascii }
comment_ends inside (comment inner bytes opened ends) =
    let h = comment_ends bytes ends in record {
      front = codes "/*" ++ inner ++ h.front;
      last = h.last;
      whole = ap (λ l. codes "/*" ++ inner ++ l) h.whole ∙ ap (λ l. 47 ∷ 42 ∷ l) (sym (append_assoc inner h.front (h.last ∷ [])));
      ascii = h.ascii;
    }

ends_one : (b : ℕ) → b < 128 → EndsInAscii (b ∷ [])
ends_one b lt = record { front = []; last = b; whole = refl; ascii = lt }

ends_two : (b c : ℕ) → c < 128 → EndsInAscii (b ∷ c ∷ [])
ends_two b c lt = record { front = b ∷ []; last = c; whole = refl; ascii = lt }

pub symbol_ends : (bytes : List ℕ) → is_some (lookup symbols bytes) ≡ true → EndsInAscii bytes
symbol_ends bytes known = each_spelling EndsInAscii symbols bytes known (
  ends_one 40 (omega arith),
  (
    ends_one 41 (omega arith),
    (
      ends_one 44 (omega arith),
      (
        ends_one 46 (omega arith),
        (
          ends_one 59 (omega arith),
          (
            ends_one 42 (omega arith),
            (
              ends_one 43 (omega arith),
              (
                ends_one 45 (omega arith),
                (
                  ends_one 47 (omega arith),
                  (
                    ends_one 37 (omega arith),
                    (
                      ends_one 61 (omega arith),
                      (
                        ends_two 60 62 (omega arith),
                        (
                          ends_two 33 61 (omega arith),
                          (
                            ends_one 60 (omega arith),
                            (ends_two 60 61 (omega arith), (ends_one 62 (omega arith), (ends_two 62 61 (omega arith), tt))),
                          ),
                        ),
                      ),
                    ),
                  ),
                ),
              ),
            ),
          ),
        ),
      ),
    ),
  ),
)

comment_boundary_by : (bytes : List ℕ) (found : Option ℕ) (end : ℕ) → IsUtf8 (codes "/*" ++ bytes) → FindsIf 0 2 bytes found → found ≡ Some end → IsCharBoundary (codes "/*" ++ bytes) end
comment_boundary_by bytes None end utf8 h e = absurd cc
comment_boundary_by bytes (Some at) end utf8 h e =
    let same : at ≡ end = cc in
    let tail = comment_ends h.inside h.ends in
    boundary_after (codes "/*" ++ bytes) (codes "/*" ++ h.inside) h.rest utf8 (ap (λ l. codes "/*" ++ l) h.whole)
    (record { front = codes "/*" ++ tail.front; last = tail.last; whole = ap (λ l. codes "/*" ++ l) tail.whole; ascii = tail.ascii }) end (omega (arith, h.there, same))

-- a text may be cut after a comment
pub comment_boundary : (text : List ℕ) (end : ℕ) → IsUtf8 text → starts_with nat_eq text (codes "/*") ≡ true → comment_end 0 2 (drop 2 text) ≡ Some end → IsCharBoundary text end
comment_boundary text end utf8 starts e =
    let whole = starts_two text 47 42 starts in
    subst (λ l. IsCharBoundary l end) (sym whole) (comment_boundary_by (drop 2 text) (comment_end 0 2 (drop 2 text)) end (subst IsUtf8 whole utf8) (comment_end_is 0 2 (drop 2 text)) e)

-- what follows ASCII is text
pub utf8_after : (text front rest : List ℕ) (b : ℕ) → IsUtf8 text → text ≡ front ++ b ∷ rest → b < 128 → IsUtf8 rest
utf8_after text front rest b utf8 whole ascii =
    let there : get_or text (length front) 0 ≡ b = ap (λ l. get_or l (length front) 0) whole ∙ get_or_at front b rest 0 (length front) refl in
    let within : length front < length text = omega (arith, ap length whole, length-append front (b ∷ rest)) in
    let boundary = IsCharBoundary-after_ascii text (length front) utf8 within (subst (λ x. x < 128) (sym there) ascii) in
    let parts : text ≡ (front ++ b ∷ []) ++ rest = whole ∙ sym (append_assoc front (b ∷ []) rest) in
    let there₂ : length (front ++ b ∷ []) ≡ length front + 1 = length-append front (b ∷ []) in
    subst IsUtf8 (ap (drop (length front + 1)) parts ∙ drop_at (front ++ b ∷ []) rest (length front + 1) there₂) (IsUtf8-drop text (length front + 1) utf8 boundary)

-- a text may be cut after its first byte, where that is ASCII and not NUL
pub first_boundary : (text : List ℕ) (b : ℕ) → IsUtf8 text → get_or text 0 0 ≡ b → 0 < b → b < 128 → IsCharBoundary text 1
first_boundary [] b utf8 e some ascii = absurd (omega (arith, e))
first_boundary (c ∷ text) b utf8 e some ascii = IsCharBoundary-after_ascii (c ∷ text) 0 utf8 (omega arith) (omega (arith, e))

take_whole : (n : ℕ) (bytes : List ℕ) → take n bytes ++ drop (length (take n bytes)) bytes ≡ bytes
take_whole zero bytes = refl
take_whole (suc n) [] = refl
take_whole (suc n) (b ∷ bytes) = ap (λ l. b ∷ l) (take_whole n bytes)

-- the symbol's front and what follows it are the bytes
pub symbol_front_whole : (bytes : List ℕ) → bytes ≡ symbol_front bytes ++ drop (length (symbol_front bytes)) bytes
symbol_front_whole bytes = cond_both (is_some (lookup symbols (take 2 bytes))) (take 2 bytes) (take 1 bytes) (λ front. bytes ≡ front ++ drop (length front) bytes)
    (λ is. sym (take_whole 2 bytes)) (λ none. sym (take_whole 1 bytes))

pub symbol_boundary : (text front : List ℕ) → IsUtf8 text → front ≡ symbol_front text → is_some (lookup symbols front) ≡ true → IsCharBoundary text (length front)
symbol_boundary text front utf8 e is =
    boundary_after text front (drop (length front) text) utf8 (subst (λ l. text ≡ l ++ drop (length l) text) (sym e) (symbol_front_whole text)) (symbol_ends front is) (length front) refl

-- ---- after each piece

-- a run of ASCII
all_ends : (p : ℕ → Bool) → ((b : ℕ) → p b ≡ true → b < 128) → (b : ℕ) (bytes : List ℕ) → p b ≡ true → list_all p bytes ≡ true → EndsInAscii (b ∷ bytes)
all_ends p ascii b [] here all = record { front = []; last = b; whole = refl; ascii = ascii b here }
all_ends p ascii b (c ∷ bytes) here all =
    let parts = and_parts (p c) (list_all p bytes) all in
    let h = all_ends p ascii c bytes parts.0 parts.1 in
    record { front = b ∷ h.front; last = h.last; whole = ap (λ l. b ∷ l) h.whole; ascii = h.ascii }

word_ends : (begins goes_on : ℕ → Bool) → ((b : ℕ) → begins b ≡ true → goes_on b ≡ true) → ((b : ℕ) → goes_on b ≡ true → b < 128) → (bytes : List ℕ) → IsRunOf begins goes_on bytes → EndsInAscii bytes
word_ends begins goes_on within ascii [] is = absurd is
word_ends begins goes_on within ascii (b ∷ bytes) is = all_ends goes_on ascii b bytes (within b is.0) is.1

quotes_end : (q : ℕ) (inside : List ℕ) → q < 128 → EndsInAscii (in_quotes q inside)
quotes_end q inside ascii = record { front = q ∷ doubled q inside; last = q; whole = refl; ascii = ascii }

line_boundary : (text line rest : List ℕ) → text ≡ line ++ rest → Stops (is_in class.Line) rest → IsCharBoundary text (length line)
line_boundary text line [] whole stops =
    let all : length text ≡ length line = ap length (whole ∙ append-nil line) in subst (IsCharBoundary text) all (IsCharBoundary-end text)
line_boundary text line (next ∷ rest) whole stops =
    let there : get_or text (length line) 0 ≡ next = ap (λ l. get_or l (length line) 0) whole ∙ get_or_at line next rest 0 (length line) refl in
    let ascii : next < 128 = grind (arith, nat_tests) in
    IsCharBoundary-before_ascii text (length line) (omega (arith, ap length whole, length-append line (next ∷ rest))) (subst (λ b. b < 128) (sym there) ascii)

piece_boundary : (text : List ℕ) (piece : Piece) (rest : List ℕ) → IsUtf8 text → text ≡ spelling piece ++ rest → Stands piece rest → IsCharBoundary text (length (spelling piece))
piece_boundary text (Blanks bytes) rest utf8 whole h =
    boundary_after text bytes rest utf8 whole (word_ends is_blank is_blank (λ b e. e) (λ b passes. grind (arith, nat_tests)) bytes h.is) (length bytes) refl
piece_boundary text (LineComment line) rest utf8 whole h = line_boundary text (codes "--" ++ line) rest whole (line_stops line rest h)
piece_boundary text (BlockComment inside) rest utf8 whole h =
    let tail = comment_ends inside h.is in
    boundary_after text (codes "/*" ++ inside) rest utf8 whole
    (record { front = codes "/*" ++ tail.front; last = tail.last; whole = ap (λ l. codes "/*" ++ l) tail.whole; ascii = tail.ascii }) (length (codes "/*" ++ inside)) refl
piece_boundary text (Word bytes) rest utf8 whole h =
    boundary_after text bytes rest utf8 whole (word_ends begins_word goes_on_word word_goes_on (λ b passes. grind (arith, nat_tests)) bytes h.is) (length bytes) refl
piece_boundary text (Number digits) rest utf8 whole h =
    boundary_after text digits rest utf8 whole (word_ends is_digit is_digit (λ b e. e) (λ b passes. grind (arith, nat_tests)) digits h.is) (length digits) refl
piece_boundary text (QuotedName name) rest utf8 whole h = boundary_after text (in_quotes double_quote name) rest utf8 whole (quotes_end double_quote name (omega arith)) (length (in_quotes double_quote name)) refl
piece_boundary text (QuotedText inside) rest utf8 whole h = boundary_after text (in_quotes single_quote inside) rest utf8 whole (quotes_end single_quote inside (omega arith)) (length (in_quotes single_quote inside)) refl
piece_boundary text (Symbol bytes) rest utf8 whole h = boundary_after text bytes rest utf8 whole (symbol_ends bytes h.is) (length bytes) refl

-- what follows a piece is text
pub utf8_after_piece : (text : List ℕ) (piece : Piece) (rest : List ℕ) → IsUtf8 text → text ≡ spelling piece ++ rest → Stands piece rest → IsUtf8 rest
utf8_after_piece text piece rest utf8 whole h =
    subst IsUtf8 (ap (drop (length (spelling piece))) whole ∙ drop_at (spelling piece) rest (length (spelling piece)) refl)
    (IsUtf8-drop text (length (spelling piece)) utf8 (piece_boundary text piece rest utf8 whole h))
