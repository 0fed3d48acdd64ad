-- Sets of columns that are read, as the code has them.
use Rattle.std.specs.Prelude.{◌≡◌, ◌||◌, ℕ, List, Option, None, Some}
use Rattle.wd_plan.specs.Plans.{has}
use Rattle.wd_sets.specs.Sets.{has_column}
use Rattle.wd_sets.specs.declared.set.Set.{Set}
use Rattle.wd_simpler.specs.Simpler.{Read, every}

-- the columns of a set; without one every column
abbrev pub read_of : Option Set → Read
read_of None = every
read_of (Some set) = has_column set

-- a set with its own columns and these
abbrev pub HasAlso : Set → List ℕ → Set → Type 0
HasAlso old columns new = (c : ℕ) → has_column new c ≡ (has_column old c || has columns c)
