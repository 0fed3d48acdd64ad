-- How far a text has been read.
use Rattle.std.proofs.Common.{◌≡◌, ◌≢◌, ℕ, zero, suc, ◌+◌, ◌-◌, ◌<◌, ◌≤◌, true, false, eqb, nat_eq, ◌&&◌, List, [], ◌∷◌, ◌++◌, length, drop, Option, Some, None, Result, Ok, Err, IfOk, IfErr, IsUtf8, ⊎_elim, refl, sym, ap, ap₂, ◌∙◌, subst, arith, append_assoc, append-nil, length-append, length-drop, eqb-true}
use Rattle.std.proofs.lemmas.Bool.{cases_Bool, cases_lt, both_ways, and_parts, cond-true, cond-false}
use Rattle.std.proofs.lemmas.Str.{IsUtf8-from_is_utf8, is_utf8-from_IsUtf8}
use Rattle.std.specs.Str.{is_utf8}
use lib.Utf8.{encode}
use Rattle.std.specs.List.{starts_with}
use Rattle.wd_lex.specs.declared.error.LexError.{LexError}
use Rattle.wd_lex.specs.declared.error.LexError.TheVariants.{UnknownCharacter, TextNotClosed, NameNotClosed, BadNumber, CommentNotClosed, NotUtf8, TooLong, OutOfMemory}
use Rattle.wd_lex.specs.declared.token.Span.{Span}
use Rattle.wd_lex.specs.declared.token.Token.{Token}
use Rattle.wd_lex.specs.declared.token.TokenKind.{TokenKind}
use Rattle.wd_lex.specs.Pieces.{Piece, spelling, spellings, kind_of, ArePieces}
use Rattle.wd_lex.specs.Lexed.{byte_order_mark, most_bytes, start_of, token_before, tokens_from, IsCut, IsLexed, IsReadable, AreInOrder}
use Rattle.wd_lex.specs.Causes.{HasCause, IsAnswer, Gives, Fails}
use Rattle.wd_lex.specs.Laws.{HasAnswer}
use Rattle.wd_lex.specs.Reading.{Reading, piece_at, as_token}
use Rattle.wd_lex.proofs.KindFacts.{spelling_some}
use Rattle.wd_lex.proofs.SoundReading.{IsFront, IsRead, piece_at_sound}
use Rattle.wd_lex.proofs.Boundaries.{utf8_after_piece}
use Rattle.wd_lex.proofs.TextLaws.{ArePieces_push, spellings_push, tokens_from-append, tokens_in_order, order_later, cause_at, one_answer}

-- ---- the byte order mark

starts_three : (text : List ℕ) (a b c : ℕ) → starts_with nat_eq text (a ∷ b ∷ c ∷ []) ≡ true → text ≡ a ∷ b ∷ c ∷ drop 3 text
starts_three [] a b c e = absurd cc
starts_three (x ∷ []) a b c e = absurd (let parts = and_parts (eqb a x) false e in cc)
starts_three (x ∷ y ∷ []) a b c e = absurd (let parts = and_parts (eqb a x) (eqb b y && false) e in let last = and_parts (eqb b y) false parts.1 in cc)
starts_three (x ∷ y ∷ z ∷ text) a b c e =
    let first = and_parts (eqb a x) (eqb b y && (eqb c z && true)) e in
    let second = and_parts (eqb b y) (eqb c z && true) first.1 in
    let third = and_parts (eqb c z) true second.1 in
    ap (λ p. p ∷ y ∷ z ∷ text) (sym (eqb-true a x first.0)) ∙ ap (λ q. a ∷ q ∷ z ∷ text) (sym (eqb-true b y second.0)) ∙ ap (λ r. a ∷ b ∷ r ∷ text) (sym (eqb-true c z third.0))

-- U+FEFF is written so
pub encode-mark : encode 0xFEFF ≡ byte_order_mark
unfolding encode
encode-mark = refl

pub after_mark : (text rest : List ℕ) → text ≡ byte_order_mark ++ rest → rest ≡ drop (start_of text) text
after_mark text rest e = sym (ap (λ l. drop (start_of l) l) e)

pub no_mark : (text : List ℕ) → ((rest : List ℕ) → text ≢ byte_order_mark ++ rest) → text ≡ drop (start_of text) text
no_mark text none = ⊎_elim
    (λ starts. absurd (none (drop 3 text) (starts_three text 239 187 191 starts)))
    (λ e. sym (ap (λ n. drop n text) (cond-false {A = ℕ} (starts_with nat_eq text byte_order_mark) 3 0 e)))
    (cases_Bool (starts_with nat_eq text byte_order_mark))

start_within : (text : List ℕ) → start_of text ≤ length text
start_within text = ⊎_elim
    (λ starts. omega (arith, cond-true {A = ℕ} (starts_with nat_eq text byte_order_mark) 3 0 starts, ap length (starts_three text 239 187 191 starts)))
    (λ e. omega (arith, cond-false {A = ℕ} (starts_with nat_eq text byte_order_mark) 3 0 e))
    (cases_Bool (starts_with nat_eq text byte_order_mark))

-- ---- what has been read

-- these are the tokens of the pieces before the rest
pub record IsReadUpTo (text : List ℕ) (tokens : List Token) (rest : List ℕ) : Type 0 where
  pub pieces : List Piece
  pub cut : IsCut text pieces rest
  pub are : tokens ≡ tokens_from (start_of text) pieces

pub none_read : (text rest : List ℕ) → rest ≡ drop (start_of text) text → IsReadUpTo text [] rest
none_read text rest e = record { pieces = []; cut = record { whole = sym e; each = tt }; are = refl }

-- the place at which the rest begins
cut_len : (text : List ℕ) (pieces : List Piece) (rest : List ℕ) → IsCut text pieces rest → start_of text + length (spellings pieces) + length rest ≡ length text
cut_len text pieces rest cut = omega (arith, start_within text, length-drop (start_of text) text, ap length cut.whole, length-append (spellings pieces) rest)

pub rest_within : (text : List ℕ) (tokens : List Token) (rest : List ℕ) → IsReadUpTo text tokens rest → length rest ≤ length text
rest_within text tokens rest h = omega (arith, cut_len text h.pieces rest h.cut)

pub all_read : (text : List ℕ) (tokens : List Token) (rest : List ℕ) → IsReadable text → IsReadUpTo text tokens rest → length rest ≡ 0 → IsLexed text tokens
all_read text tokens [] readable h none = record { readable = readable; pieces = h.pieces; cut = h.cut; are = h.are }
all_read text tokens (b ∷ rest) readable h none = absurd (omega arith)

-- ---- one more piece

-- the tokens and one more, where there is one
abbrev pub with_token : List Token → Option TokenKind → Span → List Token
with_token tokens found span = tokens ++ token_before found span []

cut_more : (text : List ℕ) (pieces : List Piece) (piece : Piece) (rest after : List ℕ) → IsCut text pieces rest → IsFront rest piece after → IsCut text (pieces ++ piece ∷ []) after
cut_more text pieces piece rest after cut front = record {
  whole = cut.whole ∙ ap (λ l. spellings pieces ++ l) front.whole ∙ sym (append_assoc (spellings pieces) (spelling piece) after) ∙ ap (λ l. l ++ after) (sym (spellings_push pieces piece));
  each = ArePieces_push pieces piece after (subst (ArePieces pieces) front.whole cut.each) front.stands;
}

token_more : (start : ℕ) (pieces : List Piece) (piece : Piece) (from to : ℕ) → from ≡ start + length (spellings pieces) → to ≡ from + length (spelling piece)
    → with_token (tokens_from start pieces) (kind_of piece) (record { start = from; end = to }) ≡ tokens_from start (pieces ++ piece ∷ [])
token_more start pieces piece from to e₁ e₂ = sym (tokens_from-append start pieces (piece ∷ [])
    ∙ ap₂ (λ m n. tokens_from start pieces ++ token_before (kind_of piece) (record { start = m; end = n }) []) (sym e₁) (ap (λ m. m + length (spelling piece)) (sym e₁) ∙ sym e₂))

front_more : (text : List ℕ) (tokens : List Token) (piece : Piece) (rest after : List ℕ) (from to : ℕ) → IsReadUpTo text tokens rest → IsFront rest piece after
    → from ≡ length text - length rest → to ≡ length text - length after → IsReadUpTo text (with_token tokens (kind_of piece) (record { start = from; end = to })) after
front_more text tokens piece rest after from to h front e₁ e₂ =
    let sizes = cut_len text h.pieces rest h.cut in
    let here : from ≡ start_of text + length (spellings h.pieces) = omega arith in
    let there : to ≡ from + length (spelling piece) = omega (arith, ap length front.whole, length-append (spelling piece) after) in
    record {
      pieces = h.pieces ++ piece ∷ [];
      cut = cut_more text h.pieces piece rest after h.cut front;
      are = ap (λ ts. with_token ts (kind_of piece) (record { start = from; end = to })) h.are ∙ token_more (start_of text) h.pieces piece from to here there;
    }

-- what a step has read
pub record IsStep (text : List ℕ) (tokens : List Token) (rest after : List ℕ) (found : Option TokenKind) : Type 0 where
  pub more : (from to : ℕ) → from ≡ length text - length rest → to ≡ length text - length after → IsReadUpTo text (with_token tokens found (record { start = from; end = to })) after
  pub shorter : length after < length rest
  pub utf8 : IsUtf8 rest → IsUtf8 after

-- what was found, or else this
abbrev pair_or : Option TokenKind × List ℕ → Result (Option TokenKind × List ℕ) LexError → Option TokenKind × List ℕ
pair_or none (Ok found) = found
pair_or none (Err e) = none

step_by : (text : List ℕ) (tokens : List Token) (rest after : List ℕ) (found : Option TokenKind) (place : ℕ) (read : Reading) → IsReadUpTo text tokens rest → IsRead place rest read → as_token read ≡ Ok (found, after)
    → IsStep text tokens rest after found
step_by text tokens rest after found place (Ok (piece, following)) h front e =
    let same = ap (pair_or (found, after)) e in
    let kind_is : kind_of piece ≡ found = ap (λ (x : Option TokenKind × List ℕ). x.0) same in
    let rest_is : following ≡ after = ap (λ (x : Option TokenKind × List ℕ). x.1) same in
    record {
      more = λ from to e₁ e₂.
          subst (λ k. IsReadUpTo text (with_token tokens k (record { start = from; end = to })) after) kind_is
          (front_more text tokens piece rest after from to h (subst (IsFront rest piece) rest_is front) e₁ e₂);
      shorter = omega (arith, ap length rest_is, ap length front.whole, length-append (spelling piece) following, spelling_some piece front.stands.is);
      utf8 = λ text_is. subst IsUtf8 rest_is (utf8_after_piece rest piece following text_is front.whole front.stands);
    }
step_by text tokens rest after found place (Err refusal) h refused e = absurd cc

pub read_step : (text : List ℕ) (tokens : List Token) (rest after : List ℕ) (found : Option TokenKind) (place : ℕ) → IsReadUpTo text tokens rest → (length rest ≡ 0 → ⊥) → as_token (piece_at place rest) ≡ Ok (found, after)
    → IsStep text tokens rest after found
read_step text tokens [] after found place h some e = absurd (some refl)
read_step text tokens (b ∷ rest) after found place h some e = step_by text tokens (b ∷ rest) after found place (piece_at place (b ∷ rest)) h (piece_at_sound place b rest) e

-- ---- a refusal

refused_by : (text : List ℕ) (tokens : List Token) (rest : List ℕ) (place : ℕ) (read : Reading) (refusal : LexError) → IsReadable text → IsReadUpTo text tokens rest → place ≡ length text - length rest
    → IsRead place rest read → as_token read ≡ Err refusal → HasCause refusal text
refused_by text tokens rest place (Ok found) refusal readable h there front e = absurd cc
refused_by text tokens rest place (Err given) refusal readable h there refused e =
    let same : given ≡ refusal = cc in
    subst (λ r. HasCause r text) same (cause_at given text place refused.0 (record {
      readable = readable;
      pieces = h.pieces;
      rest = rest;
      before = h.cut;
      there = omega (arith, there, cut_len text h.pieces rest h.cut);
      refused = refused.1;
    }))

read_refused : (text : List ℕ) (tokens : List Token) (rest : List ℕ) (place : ℕ) (refusal : LexError) → IsReadable text → IsReadUpTo text tokens rest → place ≡ length text - length rest
    → (length rest ≡ 0 → ⊥) → as_token (piece_at place rest) ≡ Err refusal → HasCause refusal text
read_refused text tokens [] place refusal readable h there some e = absurd (some refl)
read_refused text tokens (b ∷ rest) place refusal readable h there some e = refused_by text tokens (b ∷ rest) place (piece_at place (b ∷ rest)) refusal readable h there (piece_at_sound place b rest) e

-- a refusal of a piece is one of the text
pub step_refused : (text : List ℕ) (tokens : List Token) (rest : List ℕ) (place : ℕ) (refusal : LexError) → IsReadable text → IsReadUpTo text tokens rest → place ≡ length text - length rest
    → (length rest ≡ 0 → ⊥) → Fails refusal (as_token (piece_at place rest)) → refusal ≢ OutOfMemory → HasCause refusal text
step_refused text tokens rest place OutOfMemory readable h there some fails memory = absurd (memory refl)
step_refused text tokens rest place (UnknownCharacter at) readable h there some fails memory = read_refused text tokens rest place (UnknownCharacter at) readable h there some fails
step_refused text tokens rest place (TextNotClosed at) readable h there some fails memory = read_refused text tokens rest place (TextNotClosed at) readable h there some fails
step_refused text tokens rest place (NameNotClosed at) readable h there some fails memory = read_refused text tokens rest place (NameNotClosed at) readable h there some fails
step_refused text tokens rest place (BadNumber at) readable h there some fails memory = read_refused text tokens rest place (BadNumber at) readable h there some fails
step_refused text tokens rest place (CommentNotClosed at) readable h there some fails memory = read_refused text tokens rest place (CommentNotClosed at) readable h there some fails
step_refused text tokens rest place NotUtf8 readable h there some fails memory = read_refused text tokens rest place NotUtf8 readable h there some fails
step_refused text tokens rest place TooLong readable h there some fails memory = read_refused text tokens rest place TooLong readable h there some fails

-- a step over white space or a comment, and one over a token
pub read_none : (text : List ℕ) (tokens : List Token) (rest after : List ℕ) (found : Option TokenKind) → IsStep text tokens rest after found → found ≡ None → IsReadUpTo text tokens after
read_none text tokens rest after found step is =
    let from = length text - length rest in
    let to = length text - length after in
    subst (λ ts. IsReadUpTo text ts after) (ap (λ k. with_token tokens k (record { start = from; end = to })) is ∙ append-nil tokens) (step.more from to refl refl)

pub read_some : (text : List ℕ) (tokens : List Token) (rest after : List ℕ) (found : Option TokenKind) (kind : TokenKind) → IsStep text tokens rest after found → found ≡ Some kind
    → IsReadUpTo text (tokens ++ record { kind = kind; span = record { start = length text - length rest; end = length text - length after } } ∷ []) after
read_some text tokens rest after found kind step is =
    let from = length text - length rest in
    let to = length text - length after in
    subst (λ ts. IsReadUpTo text ts after) (ap (λ k. with_token tokens k (record { start = from; end = to })) is) (step.more from to refl refl)

-- ---- the answer to a text

-- the tokens of a text stand in order, within it
pub lexed_in_order : (text : List ℕ) (tokens : List Token) → IsLexed text tokens → AreInOrder 0 tokens (length text)
lexed_in_order text tokens lexed =
    let end : start_of text + length (spellings lexed.pieces) ≡ length text = omega (arith, cut_len text lexed.pieces [] lexed.cut) in
    order_later 0 (start_of text) tokens (length text) (omega arith)
    (subst (λ n. AreInOrder (start_of text) tokens n) end (subst (λ ts. AreInOrder (start_of text) ts (start_of text + length (spellings lexed.pieces))) (sym lexed.are) (tokens_in_order (start_of text) lexed.pieces [] lexed.cut.each)))

-- what the definitions answer is given
pub gives_by : {X : Type 0} (view : X → List Token) (text : List ℕ) (result : Result X LexError) → IfOk result (λ found. IsLexed text (view found))
    → IfErr result (λ refusal. refusal ≢ OutOfMemory → HasCause refusal text) → (answer : Result (List Token) LexError) → IsAnswer text answer → Gives view result answer
gives_by view text (Ok found) lexed cause answer is = one_answer text answer (Ok (view found)) is lexed
gives_by view text (Err OutOfMemory) lexed cause answer is = tt
gives_by view text (Err (UnknownCharacter place)) lexed cause answer is = one_answer text answer (Err (UnknownCharacter place)) is (cause (λ e. cc))
gives_by view text (Err (TextNotClosed place)) lexed cause answer is = one_answer text answer (Err (TextNotClosed place)) is (cause (λ e. cc))
gives_by view text (Err (NameNotClosed place)) lexed cause answer is = one_answer text answer (Err (NameNotClosed place)) is (cause (λ e. cc))
gives_by view text (Err (BadNumber place)) lexed cause answer is = one_answer text answer (Err (BadNumber place)) is (cause (λ e. cc))
gives_by view text (Err (CommentNotClosed place)) lexed cause answer is = one_answer text answer (Err (CommentNotClosed place)) is (cause (λ e. cc))
gives_by view text (Err NotUtf8) lexed cause answer is = one_answer text answer (Err NotUtf8) is (cause (λ e. cc))
gives_by view text (Err TooLong) lexed cause answer is = one_answer text answer (Err TooLong) is (cause (λ e. cc))

pub order_by : {X : Type 0} (view : X → List Token) (text : List ℕ) (result : Result X LexError) → IfOk result (λ found. IsLexed text (view found)) → IfOk result (λ found. AreInOrder 0 (view found) (length text))
order_by view text (Ok found) lexed = lexed_in_order text (view found) lexed
order_by view text (Err refusal) lexed = tt

-- ---- each text has an answer

abbrev Answered : List ℕ → Type 0
Answered text = (answer : Result (List Token) LexError) × IsAnswer text answer

answered_by : (text : List ℕ) (tokens : List Token) (rest : List ℕ) (place : ℕ) (read : Reading) → IsReadable text → IsReadUpTo text tokens rest → place ≡ length text - length rest → IsRead place rest read
    → ((more : List Token) (after : List ℕ) → IsReadUpTo text more after → length after < length rest → Answered text) → Answered text
answered_by text tokens rest place (Ok (piece, after)) readable h there front go_on =
    let to = length text - length after in
    go_on (with_token tokens (kind_of piece) (record { start = place; end = to })) after (front_more text tokens piece rest after place to h front there refl)
    (omega (arith, ap length front.whole, length-append (spelling piece) after, spelling_some piece front.stands.is))
answered_by text tokens rest place (Err refusal) readable h there refused go_on = (Err refusal, refused_by text tokens rest place (Err refusal) refusal readable h there refused refl)

answered_from : (n : ℕ) (text : List ℕ) (tokens : List Token) (rest : List ℕ) → IsReadable text → IsReadUpTo text tokens rest → length rest ≤ n → Answered text
answered_from n text tokens [] readable h le = (Ok tokens, all_read text tokens [] readable h refl)
answered_from zero text tokens (b ∷ rest) readable h le = absurd (omega arith)
answered_from (suc n) text tokens (b ∷ rest) readable h le =
    let place = length text - length (b ∷ rest) in
    answered_by text tokens (b ∷ rest) place (piece_at place (b ∷ rest)) readable h refl (piece_at_sound place b rest)
    (λ more after read shorter. answered_from n text more after readable read (omega arith))

pub has_answer : HasAnswer
has_answer text = ⊎_elim
    (λ long. (Err TooLong, long))
    (λ short. ⊎_elim
    (λ utf8.
    let start = drop (start_of text) text in
    answered_from (length start) text [] start (record { short = short; utf8 = IsUtf8-from_is_utf8 text utf8 }) (none_read text start refl) (omega arith))
    (λ other. (Err NotUtf8, (short, λ utf8. both_ways (is_utf8 text) other (is_utf8-from_IsUtf8 text utf8))))
    (cases_Bool (is_utf8 text)))
    (cases_lt most_bytes (length text))
