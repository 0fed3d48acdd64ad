-- Pieces one after another: how they go on, and that there is one way to cut a text.
use Rattle.std.proofs.Common.{◌≡◌, ℕ, ◌+◌, ◌<◌, ◌≤◌, ◌⊎◌, List, [], ◌∷◌, ◌++◌, length, Option, Some, None, Ok, Err, inl, inr, ⊎_elim, refl, sym, ap, ap₂, ◌∙◌, subst, arith, append_assoc, length-append}
use Rattle.std.proofs.lemmas.List.{flat_map_more}
use Rattle.std.proofs.lemmas.Bool.{cases_lt}
use Rattle.wd_lex.specs.declared.error.LexError.{LexError}
use Rattle.wd_lex.specs.declared.error.LexError.TheVariants.{UnknownCharacter, TextNotClosed, NameNotClosed, BadNumber, CommentNotClosed, NotUtf8, TooLong, OutOfMemory}
use Rattle.wd_lex.specs.declared.token.Span.{Span}
use Rattle.wd_lex.specs.declared.token.Token.{Token}
use Rattle.wd_lex.specs.declared.token.TokenKind.{TokenKind}
use Rattle.wd_lex.specs.Pieces.{Piece, Number, spelling, spellings, kind_of, IsPiece, IsLongest, Stands, ArePieces}
use Rattle.wd_lex.specs.Lexed.{start_of, token_before, tokens_from, IsCut, IsLexed, IsReadable, AreInOrder}
use Rattle.wd_lex.specs.Causes.{IsRefused, IsRefusedAt, HasCause, place_of}
use Rattle.wd_lex.specs.Reading.{Reading, piece_at}
use Rattle.wd_lex.specs.Laws.{HasOneListOfTokens, HasOneAnswer, IsLongestFront}
use Rattle.wd_lex.proofs.KindFacts.{spelling_some}
use Rattle.wd_lex.proofs.CompleteReading.{piece_at-spelling, piece_at-refused}

-- ---- one more piece

pub spellings_push : (pieces : List Piece) (piece : Piece) → spellings (pieces ++ piece ∷ []) ≡ spellings pieces ++ spelling piece
spellings_push pieces piece = sym (flat_map_more spelling [] pieces piece)

pub ArePieces_push : (pieces : List Piece) (piece : Piece) (rest : List ℕ) → ArePieces pieces (spelling piece ++ rest) → Stands piece rest → ArePieces (pieces ++ piece ∷ []) rest
ArePieces_push [] piece rest each stands = (stands, tt)
ArePieces_push (first ∷ pieces) piece rest each stands =
    let same : spellings (pieces ++ piece ∷ []) ++ rest ≡ spellings pieces ++ (spelling piece ++ rest) = ap (λ l. l ++ rest) (spellings_push pieces piece) ∙ append_assoc (spellings pieces) (spelling piece) rest in
    (subst (Stands first) (sym same) each.0, ArePieces_push pieces piece rest each.1 stands)

token_before-append : (found : Option TokenKind) (span : Span) (tokens others : List Token) → token_before found span (tokens ++ others) ≡ token_before found span tokens ++ others
token_before-append None span tokens others = refl
token_before-append (Some k) span tokens others = refl

pub tokens_from-append : (start : ℕ) (pieces others : List Piece) → tokens_from start (pieces ++ others) ≡ tokens_from start pieces ++ tokens_from (start + length (spellings pieces)) others
tokens_from-append start [] others = ap (λ n. tokens_from n others) (let none : start ≡ start + 0 = omega arith in none)
tokens_from-append start (piece ∷ pieces) others =
    let end = start + length (spelling piece) in
    let there : end + length (spellings pieces) ≡ start + length (spellings (piece ∷ pieces)) = omega (arith, length-append (spelling piece) (spellings pieces)) in
    ap (token_before (kind_of piece) (record { start = start; end = end })) (tokens_from-append end pieces others ∙ ap (λ n. tokens_from end pieces ++ tokens_from n others) there)
    ∙ token_before-append (kind_of piece) (record { start = start; end = end }) (tokens_from end pieces) (tokens_from (start + length (spellings (piece ∷ pieces))) others)

-- ---- in order

pub order_later : (start later : ℕ) (tokens : List Token) (end : ℕ) → start ≤ later → AreInOrder later tokens end → AreInOrder start tokens end
order_later start later [] end le h = omega arith
order_later start later (token ∷ tokens) end le h = (omega (arith, h.0), h.1, h.2)

order_before : (found : Option TokenKind) (start here : ℕ) (tokens : List Token) (end : ℕ) → start < here → AreInOrder here tokens end → AreInOrder start (token_before found (record { start = start; end = here }) tokens) end
order_before None start here tokens end lt h = order_later start here tokens end (omega arith) h
order_before (Some k) start here tokens end lt h = (omega arith, lt, h)

pub tokens_in_order : (start : ℕ) (pieces : List Piece) (rest : List ℕ) → ArePieces pieces rest → AreInOrder start (tokens_from start pieces) (start + length (spellings pieces))
tokens_in_order start [] rest each = omega arith
tokens_in_order start (piece ∷ pieces) rest each =
    let here = start + length (spelling piece) in
    let there : here + length (spellings pieces) ≡ start + length (spellings (piece ∷ pieces)) = omega (arith, length-append (spelling piece) (spellings pieces)) in
    order_before (kind_of piece) start here (tokens_from here pieces) (start + length (spellings (piece ∷ pieces))) (omega (arith, spelling_some piece each.0.is))
    (subst (AreInOrder here (tokens_from here pieces)) there (tokens_in_order here pieces rest each.1))

-- ---- one cut

-- no piece stands there
abbrev pub IsStuck : List ℕ → Type 0
IsStuck rest = (piece : Piece) (more : List ℕ) → rest ≡ spelling piece ++ more → Stands piece more → ⊥

pub IsStuck-nil : IsStuck []
IsStuck-nil piece more whole stands = absurd (omega (arith, ap length whole, length-append (spelling piece) more, spelling_some piece stands.is))

stuck_by : (place : ℕ) (e : LexError) (rest : List ℕ) → place_of e ≡ Some place → IsRefused e rest → IsStuck rest
stuck_by place e rest there refused = λ piece more whole stands.
    let known : ◌≡◌ {A = Reading} (Err e) (Ok (piece, more)) = sym (piece_at-refused place e rest there refused) ∙ ap (piece_at place) whole ∙ piece_at-spelling place piece more stands in cc

pub IsStuck-refused : (e : LexError) (rest : List ℕ) → IsRefused e rest → IsStuck rest
IsStuck-refused (UnknownCharacter place) rest h = stuck_by place (UnknownCharacter place) rest refl h
IsStuck-refused (TextNotClosed place) rest h = stuck_by place (TextNotClosed place) rest refl h
IsStuck-refused (NameNotClosed place) rest h = stuck_by place (NameNotClosed place) rest refl h
IsStuck-refused (BadNumber place) rest h = stuck_by place (BadNumber place) rest refl h
IsStuck-refused (CommentNotClosed place) rest h = stuck_by place (CommentNotClosed place) rest refl h
IsStuck-refused NotUtf8 rest h = absurd h
IsStuck-refused TooLong rest h = absurd h
IsStuck-refused OutOfMemory rest h = absurd h

-- what was read, or else this
abbrev found_or : Piece × List ℕ → Reading → Piece × List ℕ
found_or none (Ok found) = found
found_or none (Err e) = none

-- pieces that stand at one place are one
pub same_piece : (first second : Piece) (rest more : List ℕ) → Stands first rest → Stands second more → spelling first ++ rest ≡ spelling second ++ more → (first ≡ second) × (rest ≡ more)
same_piece first second rest more stands stood same =
    let known = ap (found_or (first, rest)) (sym (piece_at-spelling 0 first rest stands) ∙ ap (piece_at 0) same ∙ piece_at-spelling 0 second more stood) in
    (ap (λ (x : Piece × List ℕ). x.0) known, ap (λ (x : Piece × List ℕ). x.1) known)

pub same_cut : (pieces others : List Piece) (rest more : List ℕ) → ArePieces pieces rest → ArePieces others more → spellings pieces ++ rest ≡ spellings others ++ more → IsStuck rest → IsStuck more
    → (pieces ≡ others) × (rest ≡ more)
same_cut [] [] rest more each all same stuck ends = (refl, same)
same_cut [] (other ∷ others) rest more each all same stuck ends =
    absurd (stuck other (spellings others ++ more) (same ∙ append_assoc (spelling other) (spellings others) more) all.0)
same_cut (piece ∷ pieces) [] rest more each all same stuck ends =
    absurd (ends piece (spellings pieces ++ rest) (sym same ∙ append_assoc (spelling piece) (spellings pieces) rest) each.0)
same_cut (piece ∷ pieces) (other ∷ others) rest more each all same stuck ends =
    let first = same_piece piece other (spellings pieces ++ rest) (spellings others ++ more) each.0 all.0
    (sym (append_assoc (spelling piece) (spellings pieces) rest) ∙ same ∙ append_assoc (spelling other) (spellings others) more) in
    let next = same_cut pieces others rest more each.1 all.1 first.1 stuck ends in
    (ap₂ (λ p ps. p ∷ ps) first.0 next.0, next.1)

pub one_cut : (text : List ℕ) (pieces others : List Piece) (rest more : List ℕ) → IsCut text pieces rest → IsCut text others more → IsStuck rest → IsStuck more → (pieces ≡ others) × (rest ≡ more)
one_cut text pieces others rest more cut again stuck ends = same_cut pieces others rest more cut.each again.each (sym cut.whole ∙ again.whole) stuck ends

-- ---- the laws

pub one_list_of_tokens : HasOneListOfTokens
one_list_of_tokens text first second lexed again =
    lexed.are ∙ ap (tokens_from (start_of text)) (one_cut text lexed.pieces again.pieces [] [] lexed.cut again.cut IsStuck-nil IsStuck-nil).0 ∙ sym again.are

pub longest_front : IsLongestFront
longest_front piece longer rest more stands longer_is same =
    ⊎_elim (λ lt. absurd (by_rest (spelling piece) (spelling longer) rest more same lt (λ next after e tail. no_longer rest next after tail e))) (λ le. le) (cases_lt (length (spelling piece)) (length (spelling longer)))
  where
    -- the longer one goes on with the first byte of the rest
    by_rest : (short long rest more : List ℕ) → short ++ rest ≡ long ++ more → length short < length long
        → ((next : ℕ) (after : List ℕ) → long ≡ short ++ next ∷ after → ((tail : List ℕ) × (rest ≡ next ∷ tail)) → ⊥) → ⊥
    by_rest [] [] rest more same lt f = absurd (omega arith)
    by_rest [] (b ∷ long) rest more same lt f = f b long refl (long ++ more, same)
    by_rest (b ∷ short) [] rest more same lt f = absurd (omega arith)
    by_rest (b ∷ short) (c ∷ long) rest more same lt f =
        let heads : b ≡ c = cc in
        let tails : short ++ rest ≡ long ++ more = cc in
        by_rest short long rest more tails (omega arith) (λ next after e tail. f next after (ap₂ (λ x l. x ∷ l) (sym heads) e) tail)

    no_longer : (rest' : List ℕ) (next : ℕ) (after : List ℕ) → ((tail : List ℕ) × (rest ≡ next ∷ tail)) → spelling longer ≡ spelling piece ++ next ∷ after → ⊥
    no_longer rest' next after (tail, e) is = (subst (IsLongest piece) e stands.longest) longer after longer_is is

-- where a refusal that names a place has its cause
pub refused_at : (e : LexError) (text : List ℕ) (place : ℕ) → place_of e ≡ Some place → HasCause e text → IsRefusedAt e text place
refused_at (UnknownCharacter at) text place there h = let same : at ≡ place = cc in subst (IsRefusedAt (UnknownCharacter at) text) same h
refused_at (TextNotClosed at) text place there h = let same : at ≡ place = cc in subst (IsRefusedAt (TextNotClosed at) text) same h
refused_at (NameNotClosed at) text place there h = let same : at ≡ place = cc in subst (IsRefusedAt (NameNotClosed at) text) same h
refused_at (BadNumber at) text place there h = let same : at ≡ place = cc in subst (IsRefusedAt (BadNumber at) text) same h
refused_at (CommentNotClosed at) text place there h = let same : at ≡ place = cc in subst (IsRefusedAt (CommentNotClosed at) text) same h
refused_at NotUtf8 text place there h = absurd cc
refused_at TooLong text place there h = absurd cc
refused_at OutOfMemory text place there h = absurd h

pub cause_at : (e : LexError) (text : List ℕ) (place : ℕ) → place_of e ≡ Some place → IsRefusedAt e text place → HasCause e text
cause_at (UnknownCharacter at) text place there h = let same : place ≡ at = cc in subst (IsRefusedAt (UnknownCharacter at) text) same h
cause_at (TextNotClosed at) text place there h = let same : place ≡ at = cc in subst (IsRefusedAt (TextNotClosed at) text) same h
cause_at (NameNotClosed at) text place there h = let same : place ≡ at = cc in subst (IsRefusedAt (NameNotClosed at) text) same h
cause_at (BadNumber at) text place there h = let same : place ≡ at = cc in subst (IsRefusedAt (BadNumber at) text) same h
cause_at (CommentNotClosed at) text place there h = let same : place ≡ at = cc in subst (IsRefusedAt (CommentNotClosed at) text) same h
cause_at NotUtf8 text place there h = absurd cc
cause_at TooLong text place there h = absurd cc
cause_at OutOfMemory text place there h = absurd cc

-- ---- one answer

-- a cause in a text that can be cut is one at a place
pub record IsPlaced (e : LexError) (text : List ℕ) : Type 0 where
  pub place : ℕ
  pub there : place_of e ≡ Some place
  pub at : IsRefusedAt e text place

placed : (e : LexError) (text : List ℕ) → IsReadable text → HasCause e text → IsPlaced e text
placed (UnknownCharacter place) text readable h = record { place = place; there = refl; at = h }
placed (TextNotClosed place) text readable h = record { place = place; there = refl; at = h }
placed (NameNotClosed place) text readable h = record { place = place; there = refl; at = h }
placed (BadNumber place) text readable h = record { place = place; there = refl; at = h }
placed (CommentNotClosed place) text readable h = record { place = place; there = refl; at = h }
placed NotUtf8 text readable h = absurd (h.1 readable.utf8)
placed TooLong text readable h = absurd (omega (arith, readable.short))
placed OutOfMemory text readable h = absurd h

-- at one place there is one refusal
one_refused : (place : ℕ) (e e' : LexError) (rest : List ℕ) → place_of e ≡ Some place → place_of e' ≡ Some place → IsRefused e rest → IsRefused e' rest → e ≡ e'
one_refused place e e' rest there there' h h' =
    let known : ◌≡◌ {A = Reading} (Err e) (Err e') = sym (piece_at-refused place e rest there h) ∙ piece_at-refused place e' rest there' h' in cc

-- one that can be cut
readable_refusals : (text : List ℕ) (e e' : LexError) → IsPlaced e text → IsPlaced e' text → e ≡ e'
readable_refusals text e e' h h' =
    let same = one_cut text h.at.pieces h'.at.pieces h.at.rest h'.at.rest h.at.before h'.at.before (IsStuck-refused e h.at.rest h.at.refused) (IsStuck-refused e' h'.at.rest h'.at.refused) in
    let there : h'.place ≡ h.place = h'.at.there ∙ ap (λ ps. start_of text + length (spellings ps)) (sym same.0) ∙ sym h.at.there in
    one_refused h.place e e' h.at.rest h.there (h'.there ∙ ap Some there) h.at.refused (subst (IsRefused e') (sym same.1) h'.at.refused)

-- a text with tokens has no cause
lexed_or_refused : (text : List ℕ) (tokens : List Token) (e : LexError) → IsLexed text tokens → IsPlaced e text → ⊥
lexed_or_refused text tokens e lexed h =
    let same = one_cut text lexed.pieces h.at.pieces [] h.at.rest lexed.cut h.at.before IsStuck-nil (IsStuck-refused e h.at.rest h.at.refused) in
    nothing_refused e (subst (IsRefused e) (sym same.1) h.at.refused)
  where
    nothing_refused : (e : LexError) → IsRefused e [] → ⊥
    nothing_refused (UnknownCharacter place) refused = refused
    nothing_refused (TextNotClosed place) (rest, whole, opened) = cc
    nothing_refused (NameNotClosed place) (rest, whole, opened) = cc
    nothing_refused (BadNumber place) (digits, rest, whole, is, longest, bad) = no_digits digits rest whole is
      where
        no_digits : (digits rest : List ℕ) → [] ≡ digits ++ rest → IsPiece (Number digits) → ⊥
        no_digits [] rest whole is = is
        no_digits (b ∷ digits) rest whole is = cc
    nothing_refused (CommentNotClosed place) (rest, whole, none) = cc
    nothing_refused NotUtf8 refused = refused
    nothing_refused TooLong refused = refused
    nothing_refused OutOfMemory refused = refused

-- a text that can't be cut
unreadable : (text : List ℕ) (e e' : LexError) → HasCause e text → HasCause e' text → (IsReadable text → ⊥) → e ≡ e'
unreadable text NotUtf8 NotUtf8 h h' not_readable = refl
unreadable text TooLong TooLong h h' not_readable = refl
unreadable text NotUtf8 TooLong h h' not_readable = absurd (omega (arith, h.0))
unreadable text TooLong NotUtf8 h h' not_readable = absurd (omega (arith, h'.0))
unreadable text (UnknownCharacter place) e' h h' not_readable = absurd (not_readable h.readable)
unreadable text (TextNotClosed place) e' h h' not_readable = absurd (not_readable h.readable)
unreadable text (NameNotClosed place) e' h h' not_readable = absurd (not_readable h.readable)
unreadable text (BadNumber place) e' h h' not_readable = absurd (not_readable h.readable)
unreadable text (CommentNotClosed place) e' h h' not_readable = absurd (not_readable h.readable)
unreadable text OutOfMemory e' h h' not_readable = absurd h
unreadable text e (UnknownCharacter place) h h' not_readable = absurd (not_readable h'.readable)
unreadable text e (TextNotClosed place) h h' not_readable = absurd (not_readable h'.readable)
unreadable text e (NameNotClosed place) h h' not_readable = absurd (not_readable h'.readable)
unreadable text e (BadNumber place) h h' not_readable = absurd (not_readable h'.readable)
unreadable text e (CommentNotClosed place) h h' not_readable = absurd (not_readable h'.readable)
unreadable text e OutOfMemory h h' not_readable = absurd h'

-- whether a text can be cut, where it has a cause
readable_or_not : (text : List ℕ) (e : LexError) → HasCause e text → (IsReadable text) ⊎ (IsReadable text → ⊥)
readable_or_not text (UnknownCharacter place) h = inl h.readable
readable_or_not text (TextNotClosed place) h = inl h.readable
readable_or_not text (NameNotClosed place) h = inl h.readable
readable_or_not text (BadNumber place) h = inl h.readable
readable_or_not text (CommentNotClosed place) h = inl h.readable
readable_or_not text NotUtf8 h = inr (λ readable. h.1 readable.utf8)
readable_or_not text TooLong h = inr (λ readable. omega (arith, readable.short))
readable_or_not text OutOfMemory h = absurd h

pub one_refusal : (text : List ℕ) (e e' : LexError) → HasCause e text → HasCause e' text → e ≡ e'
one_refusal text e e' h h' =
    ⊎_elim (λ readable. readable_refusals text e e' (placed e text readable h) (placed e' text readable h')) (unreadable text e e' h h') (readable_or_not text e h)

pub no_cause : (text : List ℕ) (tokens : List Token) (e : LexError) → IsLexed text tokens → HasCause e text → ⊥
no_cause text tokens e lexed h = lexed_or_refused text tokens e lexed (placed e text lexed.readable h)

pub one_answer : HasOneAnswer
one_answer text (Ok first) (Ok second) h h' = ap Ok (one_list_of_tokens text first second h h')
one_answer text (Ok first) (Err e) h h' = absurd (no_cause text first e h h')
one_answer text (Err e) (Ok second) h h' = absurd (no_cause text second e h' h)
one_answer text (Err e) (Err e') h h' = ap Err (one_refusal text e e' h h')
