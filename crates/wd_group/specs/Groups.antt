-- The positions of the rows that have one number.
use Rattle.std.specs.Prelude.{◌≡◌, ℕ, ◌<◌, List, [], filter, get_or, length, map, nat_eq, slice_index, slice_index_or}
use Rattle.std.specs.declared.alloc.Global.{Global}
use Rattle.std.specs.declared.vec.Vec.{Vec}
use Rattle.wd_value.specs.Bags.{positions}
use Rattle.wd_group.specs.declared.groups.Groups.{Groups}

-- the lists of a list of the code
abbrev pub lists_of : List (Vec ℕ Global) → List (List ℕ)
lists_of lists = map (λ l. l.items) lists

-- the list of a number, the empty one past the last
abbrev pub list_at : List (List ℕ) → ℕ → List ℕ
list_at lists number = slice_index_or lists number []

-- the positions that have a number
abbrev pub places_of : List ℕ → ℕ → List ℕ
places_of numbers number = filter (λ p. nat_eq (get_or numbers p 0) number) (positions (length numbers))

-- for each number below a bound the positions that have it
pub record AreLists (numbers : List ℕ) (bound : ℕ) (lists : List (List ℕ)) : Type 0 where
  pub each : (number : ℕ) → number < bound → list_at lists number ≡ places_of numbers number

-- the list of the number at a position
abbrev pub own_list : Groups → ℕ → List ℕ
own_list groups p = list_at (lists_of groups.lists.items) (slice_index groups.numbers.items p)
