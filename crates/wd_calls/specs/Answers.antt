-- The answers of slides as the values of calls.
use Rattle.std.specs.Prelude.{◌≡◌, ℕ, pos, ◌-◌, ◌^◌, ◌<◌, min, List, length, slice_index_or, Result, Ok}
use Rattle.wd_value.specs.declared.value.Value.{Value}
use Rattle.wd_value.specs.declared.value.Value.TheVariants.{Null, Int, Text, Bool as Truth}
use Rattle.wd_value.specs.declared.value.Fault.{Fault}
use Rattle.wd_value.specs.Rows.{Row, rows_at}
use Rattle.wd_plan.specs.declared.function.Aggregate.{Aggregate}
use Rattle.wd_plan.specs.Calls.{aggregate_value}
use Rattle.wd_plan.specs.Expressions.{in_64}
use Rattle.wd_frame.specs.declared.answer.Answer.{Answer}
use Rattle.wd_frame.specs.declared.extent.IndexRange.{IndexRange}
use Rattle.wd_frame.specs.Slides.{Nothing, Number, Of, Plain, shown}
use Rattle.wd_frame.specs.IndexRanges.{places_along}

-- a number that 64 bits don't hold is a fault, and nothing is NULL
abbrev pub value_of : Plain → Result Value Fault
value_of (Number n) = in_64 n
value_of (Of v) = Ok v
value_of Nothing = Ok Null

-- what a value adds to a total: nothing where it is NULL, and 0 where it is no whole number
abbrev pub addend : Value → Value
addend (Int n) = Int n
addend Null = Null
addend (Text bytes) = Int (pos 0)
addend (Truth b) = Int (pos 0)

-- how many places the ranges at each place have, as far as 64 bits count
pub record AreCounts (count : ℕ) (lists : List (List IndexRange)) (answers : List Answer) : Type 0 where
  pub long : length answers ≡ count
  pub each : (p : ℕ) (other : Answer) → p < count → shown (slice_index_or answers p other) ≡ Number (pos (min (length (places_along lists p)) (2 ^ 64 - 1)))

-- the answers of an aggregate over the rows at these places, where they are as many as the partition list has rows
pub record AreAnswersOf (aggregate : Aggregate) (partition : List Row) (count : ℕ) (lists : List (List IndexRange)) (answers : List Answer) : Type 0 where
  pub long : length answers ≡ count
  pub each : count ≡ length partition → (p : ℕ) (other : Answer) → p < count → length (places_along lists p) < 2 ^ 63
      → value_of (shown (slice_index_or answers p other)) ≡ aggregate_value aggregate (rows_at partition (places_along lists p))
