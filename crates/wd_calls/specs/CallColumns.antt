-- The values of a call in a column, by their positions.
use Rattle.std.specs.Prelude.{◌≡◌, ◌⊎◌, ℕ, ◌<◌, List, length, slice_index, slice_index_or, EachIndex, SomeIndex, IsErr, IsTrue, Result, Ok, Err}
use Rattle.wd_value.specs.declared.value.Value.{Value}
use Rattle.wd_value.specs.declared.value.Value.TheVariants.{Null}
use Rattle.wd_value.specs.declared.value.Fault.{Fault}
use Rattle.wd_value.specs.Rows.{Row}
use Rattle.wd_plan.specs.declared.window.Frame.{Frame}
use Rattle.wd_plan.specs.declared.function.Function.{Function}
use Rattle.wd_plan.specs.Calls.{call_value}
use Rattle.wd_plan.specs.Plans.{ClassRule}
use Rattle.wd_frame.specs.Places.{PartRule}
use Rattle.wd_calls.specs.declared.column.CallColumn.{CallColumn}
use Rattle.wd_calls.specs.declared.partition.Partition.{Partition}
use Rattle.wd_calls.specs.Parts.{IsPartOf, partition_of}

-- a value stands at a position; for a fault NULL does, and the column says that it has one
abbrev pub StandsAt : CallColumn → ℕ → Result Value Fault → Type 0
StandsAt column p (Ok value) = slice_index_or column.values.items p Null ≡ value
StandsAt column p (Err fault) = (slice_index_or column.values.items p Null ≡ Null) × IsTrue column.out_of_range

-- a column after values were put at positions: those stand, and what stood still does
pub record ArePut (value : ℕ → Result Value Fault) (positions : List ℕ) (old new : CallColumn) : Type 0 where
  pub long : length new.values.items ≡ length old.values.items
  pub kept : (p : ℕ) → StandsAt old p (value p) → StandsAt new p (value p)
  pub put : EachIndex positions (λ k. slice_index positions k < length old.values.items → StandsAt new (slice_index positions k) (value (slice_index positions k)))
  pub said : IsTrue new.out_of_range → IsTrue old.out_of_range ⊎ SomeIndex positions (λ k. IsErr (value (slice_index positions k)))

-- at the position of each place stands for the call's value there
abbrev pub AreCallsAt : ClassRule → Frame → Function → List Row → List ℕ → (ℕ → Result Value Fault) → Type 0
AreCallsAt class frame function partition positions value = EachIndex positions (λ place. value (slice_index positions place) ≡ call_value class frame function partition place)

-- the call's values are put at the positions of the partition, as plans define them for each class that has this partition list
abbrev pub PutsCalls : Frame → Function → Partition → PartRule → CallColumn → CallColumn → Type 0
PutsCalls frame function partition part old new = (class : ClassRule) (value : ℕ → Result Value Fault) → IsPartOf class frame (partition_of partition) part
    → AreCallsAt class frame function (partition_of partition) partition.positions.now value → ArePut value partition.positions.now old new
