-- How the loop over tokens goes on.
use Rattle.std.proofs.Common.{◌≡◌, ◌∙◌, ◌<◌, ◌≤◌, ◌+◌, ◌-◌, ◌++◌, ℕ, zero, suc, nat_eq, Bool, true, false, List, [], ◌∷◌, length, refl, ap, sym, append_assoc, arith, eqb-true}
use Rattle.std.proofs.lemmas.Bool.{true≢false}
use Rattle.std.proofs.lemmas.List.{append-nil}
use Rattle.wd_lex.specs.declared.token.Token.{Token}
use Rattle.wd_clauses.specs.declared.error.RespellError.{RespellError}
use Rattle.wd_casts.specs.Names.{Kinds}
use Rattle.wd_casts.specs.Walked.{Step, step, walked}
use Rattle.wd_casts.proofs.WriteFacts.{Refused, part_refused}

-- the step that is taken in that turn
abbrev pub turn_step : Kinds → ℕ → ℕ → Bool → List Token → Step
turn_step kinds turns turn begins tokens = step (walked kinds (turns - 1 - turn) true) kinds begins tokens

walked_more : (kinds : Kinds) (turns turn : ℕ) (begins : Bool) (tokens : List Token) → turn < turns → nat_eq (length tokens) 0 ≡ false
    → walked kinds (turns - turn) begins tokens ≡ (turn_step kinds turns turn begins tokens).0 ++ walked kinds (turns - (turn + 1)) (turn_step kinds turns turn begins tokens).1 (turn_step kinds turns turn begins tokens).2
unfolding walked
walked_more kinds turns turn begins [] lt some = absurd (true≢false some)
walked_more kinds turns turn begins (token ∷ tokens) lt some =
    let k : turns - turn ≡ suc (turns - (turn + 1)) = omega arith in
    let j : turns - 1 - turn ≡ turns - (turn + 1) = omega arith in
    rw (k, j) refl

walked_none : (kinds : Kinds) (turns : ℕ) (begins : Bool) (tokens : List Token) → nat_eq (length tokens) 0 ≡ true → walked kinds turns begins tokens ≡ []
unfolding walked
walked_none kinds zero begins tokens none = refl
walked_none kinds (suc turns) begins [] none = refl
walked_none kinds (suc turns) begins (token ∷ tokens) none = absurd (let no : suc (length tokens) ≡ 0 = eqb-true (suc (length tokens)) 0 none in omega arith)

walked_over : (kinds : Kinds) (turns turn : ℕ) (begins : Bool) (tokens : List Token) → turns ≤ turn → walked kinds (turns - turn) begins tokens ≡ []
unfolding walked
walked_over kinds turns turn begins tokens le = let k : turns - turn ≡ 0 = omega arith in rw k refl

ends : (new rest old total : List Token) → rest ≡ [] → new ++ rest ≡ old ++ total → new ≡ old ++ total
ends new rest old total none so_far = sym (append-nil new) ∙ ap (λ ys. new ++ ys) (sym none) ∙ so_far

pub walk_none : (kinds : Kinds) (turns : ℕ) (begins : Bool) (tokens new old total : List Token) → nat_eq (length tokens) 0 ≡ true → new ++ walked kinds turns begins tokens ≡ old ++ total → new ≡ old ++ total
walk_none kinds turns begins tokens new old total none so_far = ends new (walked kinds turns begins tokens) old total (walked_none kinds turns begins tokens none) so_far

pub walk_over : (kinds : Kinds) (turns turn : ℕ) (begins : Bool) (tokens new old total : List Token) → turns ≤ turn → new ++ walked kinds (turns - turn) begins tokens ≡ old ++ total → new ≡ old ++ total
walk_over kinds turns turn begins tokens new old total le so_far = ends new (walked kinds (turns - turn) begins tokens) old total (walked_over kinds turns turn begins tokens le) so_far

pub walk_more : (kinds : Kinds) (turns turn : ℕ) (begins next : Bool) (tokens rest old mid new total : List Token) → turn < turns → nat_eq (length tokens) 0 ≡ false
    → new ≡ mid ++ (turn_step kinds turns turn begins tokens).0 → next ≡ (turn_step kinds turns turn begins tokens).1 → rest ≡ (turn_step kinds turns turn begins tokens).2
    → mid ++ walked kinds (turns - turn) begins tokens ≡ old ++ total → new ++ walked kinds (turns - (turn + 1)) next rest ≡ old ++ total
walk_more kinds turns turn begins next tokens rest old mid new total lt some added is_next is_rest so_far =
    let s = turn_step kinds turns turn begins tokens in
    rw (is_next, is_rest, added, append_assoc mid s.0 (walked kinds (turns - (turn + 1)) s.1 s.2)) (ap (λ ys. mid ++ ys) (sym (walked_more kinds turns turn begins tokens lt some)) ∙ so_far)

pub walk_fail : (kinds : Kinds) (refusal : RespellError) (turns turn : ℕ) (begins : Bool) (tokens old mid total : List Token) → turn < turns → nat_eq (length tokens) 0 ≡ false
    → Refused refusal (mid ++ (turn_step kinds turns turn begins tokens).0) → mid ++ walked kinds (turns - turn) begins tokens ≡ old ++ total → Refused refusal (old ++ total)
walk_fail kinds refusal turns turn begins tokens old mid total lt some added so_far =
    let s = turn_step kinds turns turn begins tokens in
    part_refused refusal mid s.0 (walked kinds (turns - (turn + 1)) s.1 s.2) (old ++ total) added (ap (λ ys. mid ++ ys) (sym (walked_more kinds turns turn begins tokens lt some)) ∙ so_far)
