-- Which positions a part of a list has.
use Rattle.std.specs.Prelude.{◌≡◌, ℕ, Bool, false, List, length, nat_eq, slice_index_or, count_by, if◌then◌else◌}
use Rattle.wd_value.specs.Bags.{times}

-- a mark for each position below n; the marked positions appear once in the list, and no others do
pub record AreSeen (n : ℕ) (taken : List ℕ) (marks : List Bool) : Type 0 where
  pub long : length marks ≡ n
  pub once : (p : ℕ) → times nat_eq p taken ≡ (if slice_index_or marks p false then 1 else 0)
  pub number : count_by (λ b. b) marks ≡ length taken
