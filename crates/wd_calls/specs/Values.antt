-- Values at places of a partition list, and where peer groups start.
use Rattle.std.specs.Prelude.{◌≡◌, ℕ, ◌+◌, ◌<◌, ◌≤◌, List, map, slice_index_or}
use Rattle.std.specs.List.Sorted.{IsNonDecreasingBy}
use Rattle.wd_value.specs.declared.value.Value.{Value}
use Rattle.wd_value.specs.Bags.{positions}
use Rattle.wd_value.specs.Rows.{Row, column_of, row_at, rows_at}
use Rattle.wd_plan.specs.Calls.{column_values}

-- the value of a column at a place of a partition list
abbrev pub value_in : List Row → ℕ → ℕ → Value
value_in partition column place = column_of (row_at partition place) column

-- the values of a column at these places
abbrev pub values_at : List Row → ℕ → List ℕ → List Value
values_at partition column places = column_values column (rows_at partition places)

-- the values of a column at the first `count` places
abbrev pub first_values : List Row → ℕ → ℕ → List Value
first_values partition column count = map (value_in partition column) (positions count)

-- group numbers rise from place to place
abbrev pub IsRising : List ℕ → Type 0
IsRising groups = IsNonDecreasingBy (λ (g : ℕ). g) groups

abbrev pub group_at : List ℕ → ℕ → ℕ
group_at groups place = slice_index_or groups place 0

-- the peer group of a place starts at this place: the places before it are of lower groups
pub record IsStart (groups : List ℕ) (place start : ℕ) : Type 0 where
  pub reached : start ≤ place
  pub same : group_at groups start ≡ group_at groups place
  pub lower : (q : ℕ) → q < start → group_at groups q < group_at groups place

-- the peer group of the place before a place starts at this place; at the first place it is the first
pub record IsStartBefore (groups : List ℕ) (place before : ℕ) : Type 0 where
  pub first : place ≡ 0 → before ≡ 0
  pub start : (p : ℕ) → place ≡ p + 1 → IsStart groups p before
