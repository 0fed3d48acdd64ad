-- How casts are read one after the other.
use Rattle.std.proofs.Common.{◌≡◌, ◌∙◌, ◌<◌, ◌≤◌, ◌+◌, ◌-◌, ◌++◌, ℕ, zero, suc, List, [], ◌∷◌, Some, None, refl, ap, sym, append_assoc, arith}
use Rattle.std.proofs.lemmas.List.{append-nil}
use Rattle.wd_lex.specs.declared.token.Token.{Token}
use Rattle.wd_casts.specs.declared.term.Cast.{Cast}
use Rattle.wd_casts.specs.Terms.{Casts, cast_at, casts_from}

none_here : (turns : ℕ) (tokens : List Token) → cast_at tokens ≡ None → casts_from turns tokens ≡ ([], tokens)
unfolding casts_from
none_here zero tokens e = refl
none_here (suc turns) tokens e = rw e refl

none_left : (turns turn : ℕ) (tokens : List Token) → turns ≤ turn → casts_from (turns - turn) tokens ≡ ([], tokens)
unfolding casts_from
none_left turns turn tokens le = let k : turns - turn ≡ 0 = omega arith in rw k refl

abbrev before : Cast → Casts → Casts
before cast found = (cast ∷ found.0, found.1)

one_here : (turns turn : ℕ) (tokens after : List Token) (cast : Cast) → turn < turns → cast_at tokens ≡ Some (cast, after) → casts_from (turns - turn) tokens ≡ before cast (casts_from (turns - (turn + 1)) after)
unfolding casts_from
one_here turns turn tokens after cast lt e =
    let k : turns - turn ≡ suc (turns - (turn + 1)) = omega arith in
    rw (k, e) refl

ends : (new old total : List Cast) (found : Casts) (tokens : List Token) → found ≡ ([], tokens) → new ++ found.0 ≡ old ++ total → new ≡ old ++ total
ends new old total found tokens e so_far = sym (append-nil new) ∙ ap (λ (f : Casts). new ++ f.0) (sym e) ∙ so_far

-- no further cast stands there
pub casts_end : (turns : ℕ) (tokens : List Token) (new old total : List Cast) → cast_at tokens ≡ None → new ++ (casts_from turns tokens).0 ≡ old ++ total → new ≡ old ++ total
casts_end turns tokens new old total none so_far = ends new old total (casts_from turns tokens) tokens (none_here turns tokens none) so_far

pub rest_end : (turns : ℕ) (tokens : List Token) (total : Casts) → cast_at tokens ≡ None → (casts_from turns tokens).1 ≡ total.1 → tokens ≡ total.1
rest_end turns tokens total none so_far = sym (ap (λ (f : Casts). f.1) (none_here turns tokens none)) ∙ so_far

-- there were as many turns as there may be
pub casts_over : (turns turn : ℕ) (tokens : List Token) (new old total : List Cast) → turns ≤ turn → new ++ (casts_from (turns - turn) tokens).0 ≡ old ++ total → new ≡ old ++ total
casts_over turns turn tokens new old total le so_far = ends new old total (casts_from (turns - turn) tokens) tokens (none_left turns turn tokens le) so_far

pub rest_over : (turns turn : ℕ) (tokens : List Token) (total : Casts) → turns ≤ turn → (casts_from (turns - turn) tokens).1 ≡ total.1 → tokens ≡ total.1
rest_over turns turn tokens total le so_far = sym (ap (λ (f : Casts). f.1) (none_left turns turn tokens le)) ∙ so_far

-- a further cast
pub casts_more : (turns turn : ℕ) (tokens after : List Token) (cast : Cast) (new mid old total : List Cast) → turn < turns → cast_at tokens ≡ Some (cast, after) → new ≡ mid ++ cast ∷ []
    → mid ++ (casts_from (turns - turn) tokens).0 ≡ old ++ total → new ++ (casts_from (turns - (turn + 1)) after).0 ≡ old ++ total
casts_more turns turn tokens after cast new mid old total lt e added so_far =
    rw (added, append_assoc mid (cast ∷ []) (casts_from (turns - (turn + 1)) after).0) (ap (λ (f : Casts). mid ++ f.0) (sym (one_here turns turn tokens after cast lt e)) ∙ so_far)

pub rest_more : (turns turn : ℕ) (tokens after : List Token) (cast : Cast) (total : Casts) → turn < turns → cast_at tokens ≡ Some (cast, after) → (casts_from (turns - turn) tokens).1 ≡ total.1 → (casts_from (turns - (turn + 1)) after).1 ≡ total.1
rest_more turns turn tokens after cast total lt e so_far = ap (λ (f : Casts). f.1) (sym (one_here turns turn tokens after cast lt e)) ∙ so_far
