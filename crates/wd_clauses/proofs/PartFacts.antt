-- How the parts of a list are read one after another.
use Rattle.std.proofs.Common.{◌≡◌, ◌<◌, ◌≤◌, ◌-◌, ◌+◌, ◌++◌, ℕ, suc, List, [], ◌∷◌, take, drop, Some, None, refl, ap, sym, ◌∙◌, arith, append_assoc, subst}
use Rattle.wd_lex.specs.declared.token.Token.{Token}
use Rattle.wd_clauses.specs.declared.level.Stop.TheVariants.{Comma}
use Rattle.wd_clauses.specs.Reach.{reach}
use Rattle.wd_clauses.specs.Parts.{Parts, parts_at, past_first, with_front}

-- those after others
abbrev pub following : List (List Token) → Parts → Parts
following front None = None
following front (Some found) = Some (front ++ found)

after_front : (front : List (List Token)) (part : List Token) (found : Parts) → following front (with_front part found) ≡ following (front ++ part ∷ []) found
after_front front part None = refl
after_front front part (Some found) = ap (λ (xs : List (List Token)). let m : Parts = Some xs in m) (sym (append_assoc front (part ∷ []) found))

-- the last part stands there
pub parts_last : (n i : ℕ) (front : List (List Token)) (tokens part after_it : List Token) (total : Parts) → i < n → part ≡ take (reach Comma tokens) tokens → after_it ≡ drop (reach Comma tokens) tokens → past_first after_it ≡ None → following front (parts_at (n - i) tokens) ≡ total → total ≡ Some (front ++ part ∷ [])
unfolding parts_at
parts_last n i front tokens part after_it total lt is rest ends so_far =
    let k : n - i ≡ suc (n - (i + 1)) = omega arith in
    let none : past_first (drop (reach Comma tokens) tokens) ≡ None = subst (λ (ts : List Token). past_first ts ≡ None) rest ends in
    let one : following front (parts_at (n - i) tokens) ≡ Some (front ++ take (reach Comma tokens) tokens ∷ []) = rw (k, none) refl in
    rw is (sym so_far ∙ one)

-- a part stands there, and a further one after a comma
pub parts_more : (n i : ℕ) (front : List (List Token)) (tokens part after_it after : List Token) (total : Parts) → i < n → part ≡ take (reach Comma tokens) tokens → after_it ≡ drop (reach Comma tokens) tokens → past_first after_it ≡ Some after → following front (parts_at (n - i) tokens) ≡ total → following (front ++ part ∷ []) (parts_at (n - (i + 1)) after) ≡ total
unfolding parts_at
parts_more n i front tokens part after_it after total lt is rest goes so_far =
    let k : n - i ≡ suc (n - (i + 1)) = omega arith in
    let some : past_first (drop (reach Comma tokens) tokens) ≡ Some after = subst (λ (ts : List Token). past_first ts ≡ Some after) rest goes in
    let one : following front (parts_at (n - i) tokens) ≡ following (front ++ take (reach Comma tokens) tokens ∷ []) (parts_at (n - (i + 1)) after) = rw (k, some) (after_front front (take (reach Comma tokens) tokens) (parts_at (n - (i + 1)) after)) in
    rw is (sym one ∙ so_far)

-- there were as many as there may be
pub parts_over : (n i : ℕ) (front : List (List Token)) (tokens : List Token) (total : Parts) → n ≤ i → following front (parts_at (n - i) tokens) ≡ total → total ≡ None
unfolding parts_at
parts_over n i front tokens total over so_far =
    let k : n - i ≡ 0 = omega arith in
    let one : following front (parts_at (n - i) tokens) ≡ None = rw k refl in
    sym so_far ∙ one
