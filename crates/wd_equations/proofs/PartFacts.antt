-- How the loop over the parts of tokens goes on.
use Rattle.std.proofs.Common.{◌≡◌, ◌∙◌, ◌<◌, ◌≤◌, ◌+◌, ◌-◌, ◌++◌, ℕ, zero, suc, List, [], ◌∷◌, Bor, length, map, take, drop, refl, ap, sym, append_assoc, arith}
use Rattle.std.proofs.lemmas.List.{map_push}
use Rattle.std.proofs.lemmas.Grind.{common_steps}
use Rattle.wd_lex.specs.declared.token.Terminal.{Terminal}
use Rattle.wd_lex.specs.declared.token.Token.{Token}
use Rattle.wd_equations.specs.Parts.{and_parts, part_from, parts_of}

abbrev pub now : Bor (List Token) → List Token
now part = part.now

after_one : (token : Token) (tokens : List Token) → take (length (token ∷ tokens) - 1) tokens ≡ tokens
after_one token tokens = grind (arith, common_steps)

and_some : (tokens following : List Token) (more : List Token → List (List Token)) → 1 ≤ length following → and_parts tokens following more ≡ more (take (length following - 1) (drop 1 following))
and_some tokens [] more le = absurd (omega arith)
and_some tokens (token ∷ following) more le = ap more (sym (after_one token following))

pub parts_more : (n i count : ℕ) (first next : Terminal) (front : List (Bor (List Token))) (part : Bor (List Token)) (rest following : List Token) (total : List (List Token))
    → i < n → count ≡ part_from first 0 0 rest → part.now ≡ take count rest → following ≡ drop count rest → 1 ≤ length following
    → map now front ++ parts_of (n - i) first next rest ≡ total
    → map now (front ++ part ∷ []) ++ parts_of (n - (i + 1)) next first (take (length following - 1) (drop 1 following)) ≡ total
unfolding parts_of
parts_more n i count first next front part rest following total lt counted front_is back le so_far =
    let k : n - i ≡ suc (n - (i + 1)) = omega arith in
    let after = parts_of (n - (i + 1)) next first (take (length following - 1) (drop 1 following)) in
    let one : parts_of (n - i) first next rest ≡ take count rest ∷ after =
    rw (k, ← counted, ← back) (and_some rest following (λ b. take count rest ∷ parts_of (n - (i + 1)) next first b) le) in
    rw (map_push now front part, append_assoc (map now front) (part.now ∷ []) after, front_is) (ap (λ ys. map now front ++ ys) (sym one) ∙ so_far)

pub parts_none : (n count : ℕ) (first next : Terminal) (tokens following : List Token) → count ≡ part_from first 0 0 tokens → following ≡ drop count tokens → length following < 1 → parts_of n first next tokens ≡ tokens ∷ []
unfolding parts_of
parts_none zero count first next tokens following counted back lt = refl
parts_none (suc n) count first next tokens [] counted back lt = rw (← counted, ← back) refl
parts_none (suc n) count first next tokens (token ∷ following) counted back lt = absurd (omega arith)

pub parts_over : (n i : ℕ) (first next : Terminal) (tokens : List Token) → n ≤ i → parts_of (n - i) first next tokens ≡ tokens ∷ []
unfolding parts_of
parts_over n i first next tokens le = let k : n - i ≡ 0 = omega arith in rw k refl

pub parts_end : (n : ℕ) (first next : Terminal) (front : List (Bor (List Token))) (last : Bor (List Token)) (total : List (List Token))
    → parts_of n first next last.now ≡ last.now ∷ [] → map now front ++ parts_of n first next last.now ≡ total → map now (front ++ last ∷ []) ≡ total
parts_end n first next front last total e so_far = rw (map_push now front last) (ap (λ ys. map now front ++ ys) (sym e) ∙ so_far)
