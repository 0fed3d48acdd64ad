-- How the places of a query are gone through.
use Rattle.std.proofs.Common.{◌≡◌, ◌<◌, ◌≤◌, ◌-◌, ◌∙◌, ℕ, suc, nat_eq, false, length, drop, Some, None, Result, refl, sym, subst, arith}
use Rattle.std.specs.Prelude.{nat_lt}
use Rattle.std.proofs.lemmas.Bool.{le-ltb}
use Rattle.wd_read_cursor.proofs.Eaten.{not_same}
use Rattle.wd_clauses.specs.declared.error.RespellError.{RespellError}
use Rattle.wd_clauses.specs.Given.{most_tokens}
use Rattle.wd_with.specs.Expanded.{Said}
use Rattle.wd_inner_with.specs.Inner.{following, fewer, open_at, opened_below}

some_at : (left place : ℕ) (query new : Said) → (left ≡ 0 → ⊥) → open_at place query.tokens ≡ Some new → length new.tokens ≤ most_tokens → opened_below left (suc place) query ≡ opened_below (fewer left (drop place query.tokens)) place (following query.read_twice new)
unfolding opened_below
some_at left place query new more e short =
    let going : nat_eq left 0 ≡ false = not_same left 0 more in
    let within : nat_lt most_tokens (length new.tokens) ≡ false = le-ltb most_tokens (length new.tokens) short in
    rw (going, e, within) refl

none_at : (left place : ℕ) (query : Said) → (left ≡ 0 → ⊥) → open_at place query.tokens ≡ None → opened_below left (suc place) query ≡ opened_below (fewer left (drop place query.tokens)) place query
unfolding opened_below
none_at left place query more e =
    let going : nat_eq left 0 ≡ false = not_same left 0 more in
    rw (going, e) refl

-- a clause was taken out
pub below_some : (left place after : ℕ) (query new : Said) (total : Result Said RespellError) → 0 < place → (left ≡ 0 → ⊥) → after ≡ fewer left (drop (place - 1) query.tokens) → open_at (place - 1) query.tokens ≡ Some new → length new.tokens ≤ most_tokens → opened_below left place query ≡ total → opened_below after (place - 1) (following query.read_twice new) ≡ total
below_some left place after query new total some more is e short so_far =
    let k : place ≡ suc (place - 1) = omega arith in
    let here : opened_below left (suc (place - 1)) query ≡ total = subst (λ (n : ℕ). opened_below left n query ≡ total) k so_far in
    let there : opened_below (fewer left (drop (place - 1) query.tokens)) (place - 1) (following query.read_twice new) ≡ total = sym (some_at left (place - 1) query new more e short) ∙ here in
    subst (λ (n : ℕ). opened_below n (place - 1) (following query.read_twice new) ≡ total) (sym is) there

-- none begins there
pub below_none : (left place after : ℕ) (query : Said) (total : Result Said RespellError) → 0 < place → (left ≡ 0 → ⊥) → after ≡ fewer left (drop (place - 1) query.tokens) → open_at (place - 1) query.tokens ≡ None → opened_below left place query ≡ total → opened_below after (place - 1) query ≡ total
below_none left place after query total some more is e so_far =
    let k : place ≡ suc (place - 1) = omega arith in
    let here : opened_below left (suc (place - 1)) query ≡ total = subst (λ (n : ℕ). opened_below left n query ≡ total) k so_far in
    let there : opened_below (fewer left (drop (place - 1) query.tokens)) (place - 1) query ≡ total = sym (none_at left (place - 1) query more e) ∙ here in
    subst (λ (n : ℕ). opened_below n (place - 1) query ≡ total) (sym is) there
