-- Positions that are picked in their order, one row on.
use Rattle.std.proofs.Common.{◌≡◌, ℕ, ◌+◌, ◌<◌, ◌≤◌, List, [], ◌∷◌, ◌++◌, All, length, get_or, arith, inl, inr}
use Rattle.std.proofs.lemmas.Bool.{cases_lt}
use Rattle.std.proofs.lemmas.List.{get_or_append_left, get_or_push, length_push}
use Rattle.std.proofs.lemmas.List.Elements.{All-push}
use Rattle.wd_column_store.specs.Moves.{AreDifferent, AreWithin}

-- they rise, and stand before the next row
pub record AreRisingTo (kept : List ℕ) (i : ℕ) : Type 0 where
  pub below : All (λ p. p < i) kept
  pub rising : (j k : ℕ) → j < k → k < length kept → get_or kept j 0 < get_or kept k 0

pub none_rising : AreRisingTo [] 0
none_rising = record { below = λ k d low. absurd (omega arith); rising = λ j k before low. absurd (omega arith) }

module _ {kept : List ℕ} {i : ℕ} (so_far : AreRisingTo kept i) where
  rising_more : (j k : ℕ) → j < k → k < length (kept ++ i ∷ []) → get_or (kept ++ i ∷ []) j 0 < get_or (kept ++ i ∷ []) k 0
  rising_more j k before low =
      let long = length_push kept i in
      let there : get_or (kept ++ i ∷ []) j 0 ≡ get_or kept j 0 = get_or_append_left kept (i ∷ []) 0 j (omega arith) in
      elim (cases_lt k (length kept)) [
        | inl less ↦ rw (there, get_or_append_left kept (i ∷ []) 0 k less) (so_far.rising j k before less)
        | inr last ↦ (
            let at : length kept ≡ k = omega arith in
            rw (there, get_or_push kept i 0 k at) (so_far.below j 0 (omega arith)))
      ]

  pub rising_kept : AreRisingTo (kept ++ i ∷ []) (i + 1)
  rising_kept = record {
    below = All-push (λ p. p < i + 1) kept i (λ k d low. (let before = so_far.below k d low in omega arith)) (omega arith);
    rising = rising_more;
  }

  pub rising_dropped : AreRisingTo kept (i + 1)
  rising_dropped = record { below = λ k d low. (let before = so_far.below k d low in omega arith); rising = so_far.rising }

  pub are_different : AreDifferent kept
  are_different j k before low same = let less = so_far.rising j k before low in omega arith

  pub are_within : (n : ℕ) → i ≤ n → AreWithin n kept
  are_within n all k d low = let before = so_far.below k d low in omega arith
