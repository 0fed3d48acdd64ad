-- What an evaluator reads for the row at a position: the members of its partition, their peer groups and keys, and its place.
use Rattle.std.specs.Prelude.{◌≡◌, ℕ, ◌-◌, ◌<◌, ◌≤◌, Bool, true, false, List, [], ◌∷◌, map, length, take, drop, slice_index_or}
use Rattle.wd_value.specs.declared.value.Value.{Value}
use Rattle.wd_value.specs.declared.value.Value.TheVariants.{Null, Int, Text, Bool as Truth}
use Rattle.wd_value.specs.Bags.{positions}
use Rattle.wd_value.specs.Rows.{Row, column_of, row_at}
use Rattle.wd_value.specs.declared.order.SortColumn.{SortColumn}
use Rattle.wd_plan.specs.Partitions.{group_of, members, partition_of, place_in}
use Rattle.wd_plan.specs.Plans.{ClassRule}
use Rattle.wd_plan.specs.Sorting.{IsOrdering}
use Rattle.wd_partition.specs.declared.places.Place.{Place}

-- the members of a partition in the ordering's order, the peer group number and the key of each, and the place of one of them
pub record MemberRule : Type 0 where
  pub positions : List ℕ
  pub groups : List ℕ
  pub numbers : List Value
  pub place : ℕ

-- a whole number, and NULL in place of everything else
abbrev pub number_part : Value → Value
number_part Null = Null
number_part (Int n) = Int n
number_part (Text bytes) = Null
number_part (Truth b) = Null

-- the numbers of the only sort key, if they are requested
abbrev pub key_numbers : Bool → List SortColumn → List Row → List Value
key_numbers true (key ∷ []) rows = map (λ r. number_part (column_of r key.column)) rows
key_numbers true [] rows = []
key_numbers true (key ∷ other ∷ keys) rows = []
key_numbers false keys rows = []

-- the member record of the row at p under an ordering
abbrev pub member_of : ClassRule → Bool → List Row → List ℕ → ℕ → MemberRule
member_of class numbers rows ordering p =
    let part = partition_of class rows ordering p in
    record {
      positions = members class rows ordering p;
      groups = map (group_of class part) part;
      numbers = key_numbers numbers class.order part;
      place = place_in (members class rows ordering p) p;
    }

-- the peer group number of the row at p in its own partition
abbrev pub own_group : ClassRule → List Row → List ℕ → ℕ → ℕ
own_group class rows ordering p = group_of class (partition_of class rows ordering p) (row_at rows p)

-- the member record of each row
abbrev pub members_of : ClassRule → Bool → List Row → List ℕ → List MemberRule
members_of class numbers rows ordering = map (member_of class numbers rows ordering) (positions (length rows))

-- the partitions of a lawful ordering, row by row
pub record ArePartitions (class : ClassRule) (numbers : Bool) (rows : List Row) (ordering : List ℕ) (members : List MemberRule) : Type 0 where
  pub lawful : IsOrdering class rows ordering
  pub each : members ≡ members_of class numbers rows ordering

-- a range of a list
abbrev pub range : {X : Type 0} → Place → List X → List X
range {X} place xs = take (place.end - place.start) (drop place.start xs)

-- the member record of a row, by its place among the positions sorted by partition
abbrev pub member_at : List ℕ → List ℕ → List Value → Place → MemberRule
member_at grouped groups numbers place = record {
  positions = range place grouped;
  groups = range place groups;
  numbers = range place numbers;
  place = place.index - place.start;
}

-- a range within a list of n elements, and an index that does not come before its start
pub record IsWithin (n : ℕ) (place : Place) : Type 0 where
  pub starts : place.start ≤ place.index
  pub ends : place.start ≤ place.end
  pub within : place.end ≤ n

-- each place is within the lists
pub record AreWithin (grouped groups : List ℕ) (numbers : List Value) (places : List Place) : Type 0 where
  pub groups_long : length groups ≡ length grouped
  pub numbers_long : 0 < length numbers → length numbers ≡ length grouped
  pub each : (p : ℕ) (d : Place) → p < length places → IsWithin (length grouped) (slice_index_or places p d)
