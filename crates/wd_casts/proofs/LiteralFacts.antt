-- How the loop over tokens with numbers with a point goes on.
use Rattle.std.proofs.Common.{◌≡◌, ◌∙◌, ◌<◌, ◌≤◌, ◌-◌, ◌++◌, ℕ, List, [], ◌∷◌, length, take, drop, get_or, Option, ap, sym, append_assoc, arith}
use Rattle.std.proofs.lemmas.Grind.{common_steps}
use Rattle.std.proofs.lemmas.List.{append-nil}
use Rattle.wd_lex.specs.declared.token.Token.{Token}
use Rattle.wd_casts.specs.Decimals.{decimal_at, literals_from, next_for}

following : (token : Token) (tokens : List Token) → take (length (token ∷ tokens) - 1) tokens ≡ tokens
following token tokens = grind (arith, common_steps)

abbrev after : List Token → List Token
after tokens = take (length tokens - 1) (drop 1 tokens)

literals_one : (query : List ℕ) (said : Option (List ℕ)) (tokens : List Token) (other : Token) → 1 ≤ length tokens
    → literals_from query said tokens
    ≡ (next_for said (decimal_at query tokens) (get_or tokens 0 other)).0 ∷ literals_from query (next_for said (decimal_at query tokens) (get_or tokens 0 other)).1 (after tokens)
unfolding literals_from
literals_one query said [] other le = absurd (omega arith)
literals_one query said (token ∷ tokens) other le =
    ap (λ more. (next_for said (decimal_at query (token ∷ tokens)) token).0 ∷ literals_from query (next_for said (decimal_at query (token ∷ tokens)) token).1 more) (sym (following token tokens))

literals_next : (query : List ℕ) (said begun : Option (List ℕ)) (tokens : List Token) (first : Token) → first ≡ get_or tokens 0 first → 1 ≤ length tokens → begun ≡ decimal_at query tokens
    → literals_from query said tokens ≡ (next_for said begun first).0 ∷ literals_from query (next_for said begun first).1 (after tokens)
literals_next query said begun tokens first is le e =
    literals_one query said tokens first le
    ∙ ap (λ (t : Token). (next_for said (decimal_at query tokens) t).0 ∷ literals_from query (next_for said (decimal_at query tokens) t).1 (after tokens)) (sym is)
    ∙ ap (λ b. (next_for said b first).0 ∷ literals_from query (next_for said b first).1 (after tokens)) (sym e)

-- the token at the start is written
pub literals_more : (query : List ℕ) (said begun next : Option (List ℕ)) (tokens mid new total : List Token) (first token : Token) → first ≡ get_or tokens 0 first → 1 ≤ length tokens → begun ≡ decimal_at query tokens
    → new ≡ mid ++ token ∷ [] → token ≡ (next_for said begun first).0 → next ≡ (next_for said begun first).1
    → mid ++ literals_from query said tokens ≡ total → new ++ literals_from query next (after tokens) ≡ total
literals_more query said begun next tokens mid new total first token is le e added is_token is_next so_far =
    rw (added, is_token, is_next)
    (append_assoc mid ((next_for said begun first).0 ∷ []) (literals_from query (next_for said begun first).1 (after tokens))
    ∙ ap (λ ys. mid ++ ys) (sym (literals_next query said begun tokens first is le e)) ∙ so_far)

pub literals_end : (query : List ℕ) (said : Option (List ℕ)) (tokens new total : List Token) → length tokens < 1 → new ++ literals_from query said tokens ≡ total → new ≡ total
unfolding literals_from
literals_end query said [] new total lt so_far = sym (append-nil new) ∙ so_far
literals_end query said (token ∷ tokens) new total lt so_far = absurd (omega arith)
