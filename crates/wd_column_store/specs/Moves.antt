-- Positions at which rows are taken out of a list.
use Rattle.std.specs.Prelude.{◌≡◌, ℕ, ◌<◌, All, List, length, slice_index_or}

-- no position stands twice in the list
abbrev pub AreDifferent : List ℕ → Type 0
AreDifferent ps = (i j : ℕ) → i < j → j < length ps → slice_index_or ps i 0 ≡ slice_index_or ps j 0 → ⊥

-- each of them is a position of n rows
abbrev pub AreWithin : ℕ → List ℕ → Type 0
AreWithin n ps = All (λ p. p < n) ps
