-- A masked text is as long as the text.
use Rattle.std.proofs.Common.{◌≡◌, ℕ, suc, List, [], ◌∷◌, ◌++◌, length, slice_index, refl, ap, append_assoc}
use Rattle.wd_dialect_text.specs.declared.mask.State.{State}
use Rattle.wd_dialect_text.specs.Masked.{masked_from, step}

pub length-masked_from : (state : State) (bytes : List ℕ) → length (masked_from state bytes) ≡ length bytes
length-masked_from state [] = refl
length-masked_from state (b ∷ bytes) = ap suc (length-masked_from (step state b (slice_index bytes 0)).1 bytes)

-- one step of masking
pub masked_step : (found : List ℕ) (state : State) (b : ℕ) (after : List ℕ) → (found ++ (step state b (slice_index after 0)).0 ∷ []) ++ masked_from (step state b (slice_index after 0)).1 after ≡ found ++ masked_from state (b ∷ after)
masked_step found state b after = append_assoc found ((step state b (slice_index after 0)).0 ∷ []) (masked_from (step state b (slice_index after 0)).1 after)
