-- How what is known of an operand is looked for.
use Rattle.std.proofs.Common.{◌≡◌, ◌≢◌, ◌∙◌, ◌-◌, ℕ, zero, suc, List, Option, Some, None, Result, IfOk, refl, ap, sym, subst, arith}
use Rattle.wd_lex.specs.declared.token.Token.{Token}
use Rattle.wd_casts.specs.declared.known.Known.{Known}
use Rattle.wd_casts.specs.declared.known.Known.TheVariants.{Nothing}
use Rattle.wd_casts.specs.Known.{known_within, whole_known}
use Rattle.wd_casts.specs.Names.{Kinds}
use Rattle.wd_casts.specs.declared.term.Term.{Term as FoundTerm}
use Rattle.wd_casts.specs.Seen.{term_seen}
use Rattle.wd_casts.specs.Terms.{Term, term_at}
use Rattle.wd_clauses.specs.Given.{Finds}

pub within_none : (kinds : Kinds) (depth : ℕ) (tokens : List Token) → depth ≡ 0 → Nothing ≡ known_within kinds depth tokens
unfolding known_within
within_none kinds depth tokens e = rw e refl

within_some : (kinds : Kinds) (depth : ℕ) (tokens : List Token) → depth ≢ 0 → whole_known (known_within kinds (depth - 1)) kinds (term_at tokens) ≡ known_within kinds depth tokens
unfolding known_within
within_some kinds zero tokens ne = absurd (ne refl)
within_some kinds (suc depth) tokens ne = let k : suc depth - 1 ≡ depth = omega arith in rw k refl

-- with what stands at the start
pub within_found : (kinds : Kinds) (depth : ℕ) (tokens : List Token) (found : Option Term) → depth ≢ 0 → term_at tokens ≡ found → whole_known (known_within kinds (depth - 1)) kinds found ≡ known_within kinds depth tokens
within_found kinds depth tokens found ne is = ap (λ (f : Option Term). whole_known (known_within kinds (depth - 1)) kinds f) (sym is) ∙ within_some kinds depth tokens ne

-- what was found is what is known
pub found_is : {E : Type 0} (found : Result Known E) (first second : Known) → first ≡ second → IfOk found (λ known. known ≡ first) → IfOk found (λ known. known ≡ second)
found_is found first second same h = subst (λ (b : Known). IfOk found (λ known. known ≡ b)) same h

-- what the code found at the start
pub seen_some : (found : Option FoundTerm) (read : Option Term) (x : FoundTerm) → Finds term_seen found read → found ≡ Some x → read ≡ Some (term_seen x)
seen_some found read x h is = subst (λ (o : Option FoundTerm). Finds term_seen o read) is h

pub seen_none : (found : Option FoundTerm) (read : Option Term) → Finds term_seen found read → found ≡ None → read ≡ None
seen_none found read h is = subst (λ (o : Option FoundTerm). Finds term_seen o read) is h
