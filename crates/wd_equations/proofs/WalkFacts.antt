-- How the loops over pieces and over tokens go on.
use Rattle.std.proofs.Common.{◌≡◌, ◌∙◌, ◌<◌, ◌≤◌, ◌+◌, ◌-◌, ◌++◌, ℕ, zero, suc, nat_eq, true, false, List, [], ◌∷◌, length, refl, ap, sym, arith, eqb-true}
use Rattle.std.proofs.lemmas.Bool.{true≢false}
use Rattle.std.proofs.lemmas.List.{append-nil}
use Rattle.wd_lex.specs.declared.token.Token.{Token}
use Rattle.wd_equations.specs.declared.error.ExpandError.{ExpandError}
use Rattle.wd_equations.specs.declared.found.Before.{Before}
use Rattle.wd_equations.specs.declared.found.Before.TheVariants.{Open}
use Rattle.wd_equations.specs.Given.{Fails}
use Rattle.wd_equations.specs.Expanded.{Step, step, walked}
use Rattle.wd_equations.proofs.AddFacts.{adds_fail, adds_more}

-- the step that is taken in that turn
abbrev pub turn_step : ℕ → ℕ → Before → List Token → Step
turn_step turns turn before tokens = step (walked (turns - 1 - turn) Open) before tokens

walked_more : (turns turn : ℕ) (before : Before) (tokens : List Token) → turn < turns → nat_eq (length tokens) 0 ≡ false
    → walked (turns - turn) before tokens ≡ (turn_step turns turn before tokens).0 ++ walked (turns - (turn + 1)) (turn_step turns turn before tokens).1 (turn_step turns turn before tokens).2
unfolding walked
walked_more turns turn before [] lt some = absurd (true≢false some)
walked_more turns turn before (token ∷ tokens) lt some =
    let k : turns - turn ≡ suc (turns - (turn + 1)) = omega arith in
    let j : turns - 1 - turn ≡ turns - (turn + 1) = omega arith in
    rw (k, j) refl

pub walked_none : (turns : ℕ) (before : Before) (tokens : List Token) → nat_eq (length tokens) 0 ≡ true → walked turns before tokens ≡ []
unfolding walked
walked_none zero before tokens none = refl
walked_none (suc turns) before [] none = refl
walked_none (suc turns) before (token ∷ tokens) none = absurd (let no : suc (length tokens) ≡ 0 = eqb-true (suc (length tokens)) 0 none in omega arith)

pub walked_over : (turns turn : ℕ) (before : Before) (tokens : List Token) → turns ≤ turn → walked (turns - turn) before tokens ≡ []
unfolding walked
walked_over turns turn before tokens le = let k : turns - turn ≡ 0 = omega arith in rw k refl

pub walk_end : (new rest old total : List Token) → rest ≡ [] → new ++ rest ≡ old ++ total → new ≡ old ++ total
walk_end new rest old total none so_far = sym (append-nil new) ∙ ap (λ ys. new ++ ys) (sym none) ∙ so_far

pub walk_more : (turns turn : ℕ) (before next : Before) (tokens rest old mid new total : List Token) → turn < turns → nat_eq (length tokens) 0 ≡ false
    → new ≡ mid ++ (turn_step turns turn before tokens).0 → next ≡ (turn_step turns turn before tokens).1 → rest ≡ (turn_step turns turn before tokens).2
    → mid ++ walked (turns - turn) before tokens ≡ old ++ total → new ++ walked (turns - (turn + 1)) next rest ≡ old ++ total
walk_more turns turn before next tokens rest old mid new total lt some added is_next is_rest so_far =
    let s = turn_step turns turn before tokens in
    rw (is_next, is_rest) (adds_more mid new s.0 (walked (turns - (turn + 1)) s.1 s.2) old total added (ap (λ ys. mid ++ ys) (sym (walked_more turns turn before tokens lt some)) ∙ so_far))

pub walk_fail : (refusal : ExpandError) (turns turn : ℕ) (before : Before) (tokens old mid total : List Token) → turn < turns → nat_eq (length tokens) 0 ≡ false
    → Fails refusal mid (turn_step turns turn before tokens).0 → mid ++ walked (turns - turn) before tokens ≡ old ++ total → Fails refusal old total
walk_fail refusal turns turn before tokens old mid total lt some added so_far =
    let s = turn_step turns turn before tokens in
    adds_fail refusal mid s.0 (walked (turns - (turn + 1)) s.1 s.2) old total added (ap (λ ys. mid ++ ys) (sym (walked_more turns turn before tokens lt some)) ∙ so_far)
