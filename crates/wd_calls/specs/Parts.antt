-- What a call reads of a partition list: its rows, their peer groups, and their keys where its frame has an offset in RANGE.
use Rattle.std.specs.Prelude.{◌≡◌, ℕ, pos, ◌<◌, true, List, map, length, Result}
use Rattle.wd_value.specs.declared.value.Value.{Value}
use Rattle.wd_value.specs.declared.value.Value.TheVariants.{Int}
use Rattle.wd_value.specs.declared.value.Fault.{Fault}
use Rattle.wd_value.specs.Rows.{Row, row_at, rows_at}
use Rattle.wd_plan.specs.declared.window.Frame.{Frame}
use Rattle.wd_plan.specs.declared.function.Function.{Function}
use Rattle.wd_plan.specs.declared.function.Ranking.{Ranking}
use Rattle.wd_plan.specs.Calls.{call_value, ranking_value}
use Rattle.wd_plan.specs.Frames.{key_distance, value_distance}
use Rattle.wd_plan.specs.Partitions.{GroupsRise, group_of}
use Rattle.wd_plan.specs.Plans.{ClassRule}
use Rattle.wd_frame.specs.Laws.{has_range_offset}
use Rattle.wd_frame.specs.Places.{PartRule, key_at}
use Rattle.wd_calls.specs.declared.partition.Partition.{Partition}

-- the partition list of a `Partition` of the code
abbrev pub partition_of : Partition → List Row
partition_of partition = rows_at partition.rows.now partition.positions.now

-- the keys at two places are as far from each other as the values of the class's one sort key
abbrev pub HasKeys : ClassRule → List Row → PartRule → Type 0
HasKeys class partition part = (p q : ℕ) → p < length partition → q < length partition
    → value_distance part.desc (key_at part p) (key_at part q) ≡ key_distance class.order (row_at partition p) (row_at partition q)

-- a partition list of a class, by its peer groups, which rise by at most one, and by its keys
pub record IsPartOf (class : ClassRule) (frame : Frame) (partition : List Row) (part : PartRule) : Type 0 where
  pub groups : part.groups ≡ map (group_of class partition) partition
  pub rising : GroupsRise class partition
  pub keys : has_range_offset frame ≡ true → HasKeys class partition part

-- the number of a ranking function at a place, for each class and frame that have this partition list
abbrev pub IsRankAt : Ranking → List Row → PartRule → ℕ → Value → Type 0
IsRankAt ranking partition part place value =
    (class : ClassRule) (frame : Frame) → IsPartOf class frame partition part → place < length partition → value ≡ Int (pos (ranking_value class ranking partition place))

-- the value of a call at a place, or its fault, as plans define it for each class that has this partition list
abbrev pub IsValueAt : Frame → Function → List Row → PartRule → ℕ → Result Value Fault → Type 0
IsValueAt frame function partition part place value =
    (class : ClassRule) → IsPartOf class frame partition part → place < length partition → value ≡ call_value class frame function partition place
