-- A part of a list.
use Rattle.std.specs.Prelude.{◌≡◌, ℕ, ◌+◌, ◌<◌, ◌≤◌, List, length, slice_index_or}

-- the list has these elements side by side
pub record IsSliceOf (whole part : List ℕ) : Type 0 where
  pub start : ℕ
  pub within : start + length part ≤ length whole
  pub each : (k : ℕ) → k < length part → slice_index_or part k 0 ≡ slice_index_or whole (start + k) 0
