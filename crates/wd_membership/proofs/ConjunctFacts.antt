-- How the conjuncts of a WHERE clause are read one after another.
use Rattle.std.proofs.Common.{◌≡◌, ◌<◌, ◌≤◌, ◌-◌, ◌++◌, ◌∙◌, ℕ, zero, suc, List, [], ◌∷◌, length, get_or, take, drop, Option, Some, None, refl, sym, subst, arith}
use Rattle.std.proofs.lemmas.List.{append-nil, take_rest}
use Rattle.wd_lex.specs.declared.token.Token.{Token}
use Rattle.wd_using.specs.declared.level.Extent.TheVariants as extent
use Rattle.wd_using.specs.Reach.{reach}
use Rattle.wd_distinct_on.proofs.ListFacts.{following, after_front}
use Rattle.wd_membership.specs.Conjuncts.{Conjunct, conjunct_at, conjuncts_at}

-- there are as many as there may be
pub conjuncts_over : (left : ℕ) (front : List Conjunct) (tokens : List Token) (total : Option (List Conjunct)) → 1 ≤ length tokens → left ≡ 0 → following front (conjuncts_at left tokens) ≡ total → total ≡ None
unfolding conjuncts_at
conjuncts_over left front [] total some none so_far = absurd (omega (arith, some))
conjuncts_over left front (word ∷ tokens) total some none so_far =
    let one : following front (conjuncts_at left (word ∷ tokens)) ≡ None = rw none refl in
    sym so_far ∙ one

read_one : (left : ℕ) (front : List Conjunct) (word : Token) (tokens : List Token) (total : Option (List Conjunct)) → 0 < left → following front (conjuncts_at left (word ∷ tokens)) ≡ total → following (front ++ conjunct_at word tokens ∷ []) (conjuncts_at (left - 1) (drop (reach extent.Conjunct tokens) tokens)) ≡ total
unfolding conjuncts_at
read_one left front word tokens total some so_far =
    let k : suc (left - 1) ≡ left = omega arith in
    let here : following front (conjuncts_at (suc (left - 1)) (word ∷ tokens)) ≡ total = subst (λ (n : ℕ). following front (conjuncts_at n (word ∷ tokens)) ≡ total) (sym k) so_far in
    sym (after_front front (conjunct_at word tokens) (conjuncts_at (left - 1) (drop (reach extent.Conjunct tokens) tokens))) ∙ here

-- what stands after the first
after_first : (first : Token) (tokens : List Token) → take (length (first ∷ tokens) - 1) (drop 1 (first ∷ tokens)) ≡ tokens
after_first first tokens = take_rest (first ∷ tokens) 1

-- a conjunct is read there, and others may follow
pub conjuncts_more : (left : ℕ) (front : List Conjunct) (word : Token) (tokens test after : List Token) (total : Option (List Conjunct)) → 1 ≤ length tokens → word ≡ get_or tokens 0 word → 0 < left → test ≡ take (reach extent.Conjunct (take (length tokens - 1) (drop 1 tokens))) (take (length tokens - 1) (drop 1 tokens)) → after ≡ drop (reach extent.Conjunct (take (length tokens - 1) (drop 1 tokens))) (take (length tokens - 1) (drop 1 tokens)) → following front (conjuncts_at left tokens) ≡ total → following (front ++ (record { word = word; test = test }) ∷ []) (conjuncts_at (left - 1) after) ≡ total
conjuncts_more left front word [] test after total some first more is rest so_far = absurd (omega (arith, some))
conjuncts_more left front word (x ∷ tokens) test after total some first more is rest so_far =
    let part : test ≡ take (reach extent.Conjunct tokens) tokens = subst (λ (ts : List Token). test ≡ take (reach extent.Conjunct ts) ts) (after_first x tokens) is in
    let further : after ≡ drop (reach extent.Conjunct tokens) tokens = subst (λ (ts : List Token). after ≡ drop (reach extent.Conjunct ts) ts) (after_first x tokens) rest in
    rw (first, part, further) (read_one left front x tokens total more so_far)

conjuncts_none : (left : ℕ) → conjuncts_at left [] ≡ Some []
unfolding conjuncts_at
conjuncts_none zero = refl
conjuncts_none (suc left) = refl

-- none follows
pub conjuncts_end : (left : ℕ) (front : List Conjunct) (tokens : List Token) (total : Option (List Conjunct)) → length tokens < 1 → following front (conjuncts_at left tokens) ≡ total → total ≡ Some front
conjuncts_end left front [] total none so_far =
    let one : following front (conjuncts_at left []) ≡ Some front = rw (conjuncts_none left, append-nil front) refl in
    sym so_far ∙ one
conjuncts_end left front (word ∷ tokens) total none so_far = absurd (omega (arith, none))
