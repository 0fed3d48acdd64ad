-- How a loop goes on that writes tokens step by step.
use Rattle.std.proofs.Common.{◌≡◌, ◌≢◌, ◌∙◌, ◌<◌, ◌≤◌, ◌+◌, ◌-◌, ◌++◌, ℕ, zero, suc, nat_eq, true, false, List, [], ◌∷◌, length, refl, ap, sym, arith, eqb-true}
use Rattle.std.proofs.lemmas.Bool.{true≢false}
use Rattle.std.proofs.lemmas.List.{append-nil}
use Rattle.wd_lex.specs.declared.token.Token.{Token}
use Rattle.wd_moments.specs.declared.error.MomentError.{MomentError}
use Rattle.wd_amounts.specs.Terms.{Known}
use Rattle.wd_moments.specs.declared.item.Start.TheVariants.{AtSide}
use Rattle.wd_moments.specs.Given.{Fails}
use Rattle.wd_moments.specs.Numbered.{numbers_within, step}
use Rattle.wd_moments.specs.Sides.{StepTo, stepped}
use Rattle.wd_moments.proofs.AddFacts.{adds_fail, adds_more}

module _ {S : Type 0} (step : S → List Token → StepTo S) where
  stepped_more : (turns turn : ℕ) (stand : S) (tokens : List Token) → turn < turns → nat_eq (length tokens) 0 ≡ false
      → stepped step (turns - turn) stand tokens ≡ (step stand tokens).0 ++ stepped step (turns - (turn + 1)) (step stand tokens).1 (step stand tokens).2
  unfolding stepped
  stepped_more turns turn stand [] lt some = absurd (true≢false some)
  stepped_more turns turn stand (token ∷ tokens) lt some = let k : turns - turn ≡ suc (turns - (turn + 1)) = omega arith in rw k refl

  pub stepped_none : (turns : ℕ) (stand : S) (tokens : List Token) → nat_eq (length tokens) 0 ≡ true → stepped step turns stand tokens ≡ []
  unfolding stepped
  stepped_none zero stand tokens none = refl
  stepped_none (suc turns) stand [] none = refl
  stepped_none (suc turns) stand (token ∷ tokens) none = absurd (let no : suc (length tokens) ≡ 0 = eqb-true (suc (length tokens)) 0 none in omega arith)

  pub stepped_over : (turns turn : ℕ) (stand : S) (tokens : List Token) → turns ≤ turn → stepped step (turns - turn) stand tokens ≡ []
  unfolding stepped
  stepped_over turns turn stand tokens le = let k : turns - turn ≡ 0 = omega arith in rw k refl

  pub steps_more : (turns turn : ℕ) (stand next : S) (tokens rest old mid new total : List Token) → turn < turns → nat_eq (length tokens) 0 ≡ false
      → new ≡ mid ++ (step stand tokens).0 → next ≡ (step stand tokens).1 → rest ≡ (step stand tokens).2
      → mid ++ stepped step (turns - turn) stand tokens ≡ old ++ total → new ++ stepped step (turns - (turn + 1)) next rest ≡ old ++ total
  steps_more turns turn stand next tokens rest old mid new total lt some added is_next is_rest so_far =
      let s = step stand tokens in
      rw (is_next, is_rest) (adds_more mid new s.0 (stepped step (turns - (turn + 1)) s.1 s.2) old total added (ap (λ ys. mid ++ ys) (sym (stepped_more turns turn stand tokens lt some)) ∙ so_far))

  pub steps_fail : (refusal : MomentError) (turns turn : ℕ) (stand : S) (tokens old mid total : List Token) → turn < turns → nat_eq (length tokens) 0 ≡ false
      → Fails refusal mid (step stand tokens).0 → mid ++ stepped step (turns - turn) stand tokens ≡ old ++ total → Fails refusal old total
  steps_fail refusal turns turn stand tokens old mid total lt some added so_far =
      let s = step stand tokens in
      adds_fail refusal mid s.0 (stepped step (turns - (turn + 1)) s.1 s.2) old total added (ap (λ ys. mid ++ ys) (sym (stepped_more turns turn stand tokens lt some)) ∙ so_far)

pub steps_end : (new rest old total : List Token) → rest ≡ [] → new ++ rest ≡ old ++ total → new ≡ old ++ total
steps_end new rest old total none so_far = sym (append-nil new) ∙ ap (λ ys. new ++ ys) (sym none) ∙ so_far

pub within_none : (known : Known) (levels : ℕ) (tokens : List Token) → levels ≡ 0 → numbers_within known levels tokens ≡ tokens
unfolding numbers_within
within_none known levels tokens none = rw none refl

-- the walk begins with all tokens
pub within_first : (known : Known) (levels : ℕ) (tokens : List Token) → levels ≢ 0
    → stepped (step (numbers_within known (levels - 1)) known) (length tokens - 0) AtSide tokens ≡ numbers_within known levels tokens
unfolding numbers_within
within_first known zero tokens some = absurd (some refl)
within_first known (suc levels) tokens some =
    let less : suc levels - 1 ≡ levels = omega arith in
    let all : length tokens - 0 ≡ length tokens = omega arith in
    rw (less, all) refl
