-- The partition list of a row, places in it, and peer groups.
use Rattle.std.specs.Prelude.{◌≡◌, ◌⊎◌, ℕ, suc, ◌+◌, ◌<◌, List, [], ◌∷◌, map, filter, length, nat_eq, if◌then◌else◌}
use Rattle.std.specs.List.{list_any}
use Rattle.std.specs.Ordering.{is_lt}
use Rattle.wd_value.specs.declared.value.Value.{Value}
use Rattle.wd_value.specs.Rows.{Row, columns_of, same_row, row_at, rows_at}
use Rattle.wd_value.specs.Keys.{compare_keys, key_columns}
use Rattle.wd_plan.specs.Plans.{ClassRule}
use Rattle.wd_plan.specs.Sorting.{same_partition}

-- the ordering's positions of the rows that are in one partition with the row at r
abbrev pub members : ClassRule → List Row → List ℕ → ℕ → List ℕ
members class rows ordering r = filter (λ q. same_partition class (row_at rows r) (row_at rows q)) ordering

-- the partition list as rows
abbrev pub partition_of : ClassRule → List Row → List ℕ → ℕ → List Row
partition_of class rows ordering r = rows_at rows (members class rows ordering r)

-- the place of a position in a list: how many come before it
abbrev pub place_in : List ℕ → ℕ → ℕ
place_in [] r = 0
place_in (q ∷ qs) r = if nat_eq q r then 0 else suc (place_in qs r)

-- how many different lists of key values there are
abbrev pub different : List (List Value) → ℕ
different [] = 0
different (k ∷ ks) = (if list_any (same_row k) ks then 0 else 1) + different ks

-- the peer group number of a row: how many different lists of key values in its partition are less than its own;
-- without sort keys all rows are of group 0
abbrev pub group_of : ClassRule → List Row → Row → ℕ
group_of class partition r = different (map (columns_of (key_columns class.order)) (filter (λ q. is_lt (compare_keys class.order q r)) partition))

-- along a partition list the first peer group number is 0, and each further one is the one before it or one more
pub record GroupsRise (class : ClassRule) (partition : List Row) : Type 0 where
  pub first : 0 < length partition → group_of class partition (row_at partition 0) ≡ 0
  pub next : (i : ℕ) → i + 1 < length partition
      → (group_of class partition (row_at partition (i + 1)) ≡ group_of class partition (row_at partition i))
      ⊎ (group_of class partition (row_at partition (i + 1)) ≡ group_of class partition (row_at partition i) + 1)
