-- Which tokens their text is read as.
use Rattle.std.proofs.Common.{◌≡◌, ◌≢◌, ◌≤◌, ℕ, List, [], ◌∷◌, length, Result, Ok, IsUtf8, IsSome, Option, is_some, ◌↔◌, Bool, true, false, ap, refl, sym, subst, ◌∙◌}
use Rattle.std.proofs.lemmas.List.Elements.{All-nil, All-cons, All-head, All-tail, All-map}
use Rattle.std.specs.List.{All}
use Rattle.std.specs.Bool.{then_some}
use Rattle.wd_lex.specs.Causes.{Fails}
use Rattle.wd_lex.specs.declared.error.LexError.{LexError}
use Rattle.wd_lex.specs.declared.error.LexError.TheVariants as e
use Rattle.wd_lex.specs.declared.token.Token.{Token}
use Rattle.wd_lex.specs.Lexed.{IsLexed, kinds_of, most_bytes}
use Rattle.wd_print.specs.Printed.{HasTokens, IsPrintable}
use Rattle.wd_print.proofs.PrintedFacts.{printed_is_read}
use Rattle.wd_token_text.specs.Texts.{AreWritable, IsSpellable, text_of}
use Rattle.wd_token_text.proofs.SpellableFacts.{lexed_are_spellable}

-- tokens that can be written are what the lexer reads in their text
pub writable_is_read : (text : List ℕ) (tokens : List Token) → text ≡ text_of tokens → IsUtf8 text → AreWritable tokens → HasTokens text (kinds_of tokens)
writable_is_read text tokens is utf8 writable =
    subst (λ t. HasTokens t (kinds_of tokens)) (sym is)
    (printed_is_read (kinds_of tokens) (All-map IsPrintable (λ (t : Token). t.kind) tokens writable.each)
    (record { short = writable.short; utf8 = subst IsUtf8 is utf8 }))

of_kinds : (tokens : List Token) → All IsPrintable (kinds_of tokens) → All IsSpellable tokens
of_kinds [] each = All-nil IsSpellable
of_kinds (token ∷ tokens) each =
    All-cons IsSpellable token tokens (All-head IsPrintable token.kind (kinds_of tokens) each) (of_kinds tokens (All-tail IsPrintable token.kind (kinds_of tokens) each))

each_by_kinds : (tokens others : List Token) → kinds_of others ≡ kinds_of tokens → All IsSpellable others → All IsSpellable tokens
each_by_kinds tokens others same each =
    of_kinds tokens (subst (All IsPrintable) same (All-map IsPrintable (λ (t : Token). t.kind) others each))

-- tokens that the lexer reads in their text can be written
pub read_are_writable : (text : List ℕ) (tokens own : List Token) → text ≡ text_of tokens → IsLexed text own → kinds_of own ≡ kinds_of tokens → AreWritable tokens
read_are_writable text tokens own is lexed same = record {
  each = each_by_kinds tokens own same (lexed_are_spellable text own lexed);
  short = subst (λ t. length t ≤ most_bytes) is lexed.readable.short;
}

one_list : (x y : List Token) → (let found : Result (List Token) LexError = Ok x in found) ≡ Ok y → y ≡ x
one_list x y same = cc

-- what the lexer reads in their text is tokens that can be written
pub writable_are_same : (text : List ℕ) (tokens own : List Token) → text ≡ text_of tokens → IsUtf8 text
    → ((found : List Token) → IsLexed text found → (let answer : Result (List Token) LexError = Ok found in answer) ≡ Ok own) → AreWritable tokens → kinds_of own ≡ kinds_of tokens
writable_are_same text tokens own is utf8 one writable =
    let read = writable_is_read text tokens is utf8 writable in ap kinds_of (one_list read.tokens own (one read.tokens read.lexed)) ∙ read.are

-- a text that is refused has no tokens
pub no_tokens : (error : LexError) (tokens : List Token) → error ≢ e.OutOfMemory → Fails error (let found : Result (List Token) LexError = Ok tokens in found) → ⊥
no_tokens e.OutOfMemory tokens ne refused = ne refl
no_tokens error tokens ne refused = cc

-- a text is given just where the lexer reads the same
pub some_where_same : {X : Type 0} (same : Bool) (x : X) (given : Option X) (A : Type 0) → given ≡ then_some same x → (same ≡ true → A) → (A → same ≡ true) → IsSome given ↔ A
some_where_same true x given A is so back = ((λ h. so refl), (λ a. ap is_some is))
some_where_same false x given A is so back = ((λ h. absurd (let e : false ≡ true = sym (ap is_some is) ∙ h in cc)), (λ a. absurd (let e : false ≡ true = back a in cc)))
