use Rattle.std.proofs.Common.{◌≡◌, ◌≢◌, ◌+◌, ◌≤◌, ◌↔◌, ℕ, Bool, List, [], ◌∷◌, length, IfOk, IsTrue, Result, Ok, Err, refl, subst, sym, ◌∙◌, ap, arith}
use Rattle.wd_lex.specs.Causes.{Fails}
use Rattle.wd_lex.specs.Lexed.{AreInOrder, IsLexed}
use Rattle.wd_lex.specs.declared.error.LexError.{LexError}
use Rattle.wd_lex.specs.declared.error.LexError.TheVariants as e
use Rattle.wd_lex.specs.declared.token.Token.{Token}
use Rattle.wd_dialect_read.specs.declared.said.Statement.{Statement}
use Rattle.wd_moments.specs.Given.{most_tokens}
use Rattle.wd_respell.specs.Respelled.{AreCounted, CountsUnits}
use Rattle.wd_respell.proofs.counts.counts_units.Goals as goal

-- each token has a byte at least
in_order : (start : ℕ) (tokens : List Token) (end : ℕ) → AreInOrder start tokens end → start + length tokens ≤ end
in_order start [] end h = omega (arith, h)
in_order start (token ∷ tokens) end h = omega (arith, h.0, h.1, in_order token.span.end tokens end h.2)

few : (query : List ℕ) (tokens : List Token) → IsLexed query tokens → AreInOrder 0 tokens (length query) → length tokens ≤ most_tokens
few query tokens lexed order = omega (arith, lexed.readable.short, in_order 0 tokens (length query) order)

one_list : (x y : List Token) → (let found : Result (List Token) LexError = Ok x in found) ≡ Ok y → x ≡ y
one_list x y same = cc

-- the tokens of a text are one list
counted_so : {E : Type 0} (statements : List Statement) (query : List ℕ) (found view : List Token) (answer : Result Bool E) → view ≡ found → IsLexed query found
    → ((tokens : List Token) → IsLexed query tokens → tokens ≡ found)
    → IfOk answer (λ counts. IsTrue counts ↔ AreCounted statements view) → IfOk answer (λ counts. IsTrue counts ↔ CountsUnits statements query)
counted_so statements query found view (Err error) seen lexed one answer = tt
counted_so statements query found view (Ok counts) seen lexed one answer = (
  (λ h. record { tokens = found; lexed = lexed; counted = (let P : List Token → Type 0 = λ tokens. AreCounted statements tokens in subst P seen (answer.0 h)) }),
  (λ h. answer.1 (let P : List Token → Type 0 = λ tokens. AreCounted statements tokens in subst P (one h.tokens h.lexed ∙ sym seen) h.counted)),
)

-- a text that is refused has no tokens
no_tokens : (error : LexError) (tokens : List Token) → error ≢ e.OutOfMemory → Fails error (let found : Result (List Token) LexError = Ok tokens in found) → ⊥
no_tokens e.OutOfMemory tokens ne refused = ne refl
no_tokens error tokens ne refused = cc

pub are_counted-requires : goal.are_counted-requires
are_counted-requires c = omega (arith, ap length c.deref.ensures.value, few c.args.query.now c.in-Ok.tokens.items c.in-Ok.ensures.tokens c.in-Ok.ensures.order)

pub returns-in-Ok : goal.returns-in-Ok
returns-in-Ok c =
    counted_so c.args.statements.now c.args.query.now c.in-Ok.tokens.items c.deref.result.now c.are_counted.result c.deref.ensures.value c.in-Ok.ensures.tokens
    (λ tokens lexed. one_list tokens c.in-Ok.tokens.items (c.in-Ok.ensures.lexed tokens lexed)) c.are_counted.ensures

pub returns-in_default : goal.returns-in_default
returns-in_default c = (
  (λ h. absurd (let no : ⊥ = cc in no)),
  (λ h. absurd (no_tokens c.in-Err.error h.tokens c.in_default.not-OutOfMemory (c.in-Err.ensures.lexed h.tokens h.lexed))),
)
