-- How the places of a query are gone through.
use Rattle.std.proofs.Common.{◌≡◌, ◌<◌, ◌≤◌, ◌-◌, ◌∙◌, ℕ, suc, nat_eq, Bool, false, List, length, drop, Option, Some, None, Result, refl, sym, subst, arith}
use Rattle.std.specs.Prelude.{nat_lt}
use Rattle.std.proofs.lemmas.Bool.{le-ltb}
use Rattle.wd_read_cursor.proofs.Eaten.{not_same}
use Rattle.wd_lex.specs.declared.token.Token.{Token}
use Rattle.wd_clauses.specs.declared.error.RespellError.{RespellError}
use Rattle.wd_clauses.specs.Given.{most_tokens}
use Rattle.wd_distinct_on.specs.Selects.{fewer, respelled_below}

some_at : (begins : List Token → Bool) (respell_at : ℕ → List Token → Option (List Token)) (left place : ℕ) (tokens new : List Token) → (left ≡ 0 → ⊥) → respell_at place tokens ≡ Some new → length new ≤ most_tokens → respelled_below begins respell_at left (suc place) tokens ≡ respelled_below begins respell_at (fewer begins left (drop place tokens)) place new
unfolding respelled_below
some_at begins respell_at left place tokens new more e short =
    let going : nat_eq left 0 ≡ false = not_same left 0 more in
    let within : nat_lt most_tokens (length new) ≡ false = le-ltb most_tokens (length new) short in
    rw (going, e, within) refl

none_at : (begins : List Token → Bool) (respell_at : ℕ → List Token → Option (List Token)) (left place : ℕ) (tokens : List Token) → (left ≡ 0 → ⊥) → respell_at place tokens ≡ None → respelled_below begins respell_at left (suc place) tokens ≡ respelled_below begins respell_at (fewer begins left (drop place tokens)) place tokens
unfolding respelled_below
none_at begins respell_at left place tokens more e =
    let going : nat_eq left 0 ≡ false = not_same left 0 more in
    rw (going, e) refl

-- a select was respelled
pub below_some : (begins : List Token → Bool) (respell_at : ℕ → List Token → Option (List Token)) (left place after : ℕ) (tokens new : List Token) (total : Result (List Token) RespellError) → 0 < place → (left ≡ 0 → ⊥) → after ≡ fewer begins left (drop (place - 1) tokens) → respell_at (place - 1) tokens ≡ Some new → length new ≤ most_tokens → respelled_below begins respell_at left place tokens ≡ total → respelled_below begins respell_at after (place - 1) new ≡ total
below_some begins respell_at left place after tokens new total some more is e short so_far =
    let k : place ≡ suc (place - 1) = omega arith in
    let here : respelled_below begins respell_at left (suc (place - 1)) tokens ≡ total = subst (λ (n : ℕ). respelled_below begins respell_at left n tokens ≡ total) k so_far in
    let there : respelled_below begins respell_at (fewer begins left (drop (place - 1) tokens)) (place - 1) new ≡ total = sym (some_at begins respell_at left (place - 1) tokens new more e short) ∙ here in
    subst (λ (n : ℕ). respelled_below begins respell_at n (place - 1) new ≡ total) (sym is) there

-- none begins there
pub below_none : (begins : List Token → Bool) (respell_at : ℕ → List Token → Option (List Token)) (left place after : ℕ) (tokens : List Token) (total : Result (List Token) RespellError) → 0 < place → (left ≡ 0 → ⊥) → after ≡ fewer begins left (drop (place - 1) tokens) → respell_at (place - 1) tokens ≡ None → respelled_below begins respell_at left place tokens ≡ total → respelled_below begins respell_at after (place - 1) tokens ≡ total
below_none begins respell_at left place after tokens total some more is e so_far =
    let k : place ≡ suc (place - 1) = omega arith in
    let here : respelled_below begins respell_at left (suc (place - 1)) tokens ≡ total = subst (λ (n : ℕ). respelled_below begins respell_at left n tokens ≡ total) k so_far in
    let there : respelled_below begins respell_at (fewer begins left (drop (place - 1) tokens)) (place - 1) tokens ≡ total = sym (none_at begins respell_at left (place - 1) tokens more e) ∙ here in
    subst (λ (n : ℕ). respelled_below begins respell_at n (place - 1) tokens ≡ total) (sym is) there
