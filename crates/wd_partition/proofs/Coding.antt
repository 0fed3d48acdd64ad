-- Steps by numbers in the place of rows.
use Rattle.std.proofs.Common.{◌≡◌, ◌∙◌, ℕ, zero, suc, ◌<◌, List, get_or, length, refl, sym, arith, Ordering}
use Rattle.std.specs.Prelude.{All}
use Rattle.std.proofs.lemmas.List.Elements.{All-from_get_or, All-get_or}
use Rattle.std.proofs.lemmas.List.FromFn.{get_or-range_with_len, length-range_with_len}
use Rattle.std.proofs.lemmas.List.Sorted.{All-permutation}
use Rattle.wd_value.specs.Bags.{positions}
use Rattle.wd_partition.specs.Columns.{given_positions}
use Rattle.wd_partition.specs.Steps.{AreSteps, step_by, step_to}
use Rattle.wd_partition.specs.declared.steps.Step.{Step}
use Rattle.wd_partition.specs.declared.turn.Turn.{Turn}
use Rattle.wd_partition.proofs.Grouping.{IsPermutation-given}

-- the given positions are those of rows
pub within_given : (turn : Turn) (n : ℕ) → All (λ p. p < n) (given_positions turn n)
within_given turn n =
    All-permutation (λ p. p < n) (positions n) (given_positions turn n) (IsPermutation-given turn n)
    (All-from_get_or (λ p. p < n) (positions n) 0
    (λ i low. (
    let long = length-range_with_len 0 n in
    let within : i < n = omega arith in
    let at = get_or-range_with_len 0 n i 0 within in
    omega arith)))

module _ (R K R' K' : ℕ → ℕ → Ordering) (n : ℕ) (list : List ℕ) (by_partition : (p q : ℕ) → p < n → q < n → R p q ≡ R' p q) (by_keys : (p q : ℕ) → p < n → q < n → K p q ≡ K' p q) (within : All (λ p. p < n) list) where
  step_alike : (i : ℕ) → i < length list → step_to R K list i ≡ step_to R' K' list i
  step_alike zero low = refl
  step_alike (suc i) low =
      let p = get_or list i 0 in
      let q = get_or list (suc i) 0 in
      let here : p < n = All-get_or (λ p. p < n) list i 0 (omega arith) within in
      let next : q < n = All-get_or (λ p. p < n) list (suc i) 0 low within in
      (λ t. step_by (by_partition p q here next t) (by_keys p q here next t))

  -- comparisons that are alike at all positions of a list make the same steps
  pub AreSteps-alike : (steps : List Step) → AreSteps R K list steps → AreSteps R' K' list steps
  AreSteps-alike steps are = record { long = are.long; each = λ i d low. sym (step_alike i low) ∙ are.each i d low }
