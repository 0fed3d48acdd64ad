-- What the values of a call are made from.
use Rattle.std.specs.Prelude.{◌≡◌, ℕ, ◌-◌, ◌<◌, List, length, slice_index_or}
use Rattle.wd_value.specs.Rows.{Row}
use Rattle.wd_plan.specs.declared.function.FrameFunction.TheVariants.{ValueAt}
use Rattle.wd_plan.specs.declared.function.FrameRow.{FrameRow}
use Rattle.wd_plan.specs.declared.function.FrameRow.TheVariants.{First, Last, Nth}
use Rattle.wd_plan.specs.declared.function.Function.{Function}
use Rattle.wd_plan.specs.declared.function.Function.TheVariants as of
use Rattle.wd_plan.specs.declared.window.Frame.{Frame}
use Rattle.wd_plan.specs.Calls.{call_value}
use Rattle.wd_plan.specs.Plans.{ClassRule}
use Rattle.wd_frame.specs.declared.answer.Answer.{Answer}
use Rattle.wd_frame.specs.Places.{PartRule}
use Rattle.wd_frame.specs.Slides.{shown}
use Rattle.wd_frame.specs.IndexRanges.{AreFrames, lists_of}
use Rattle.wd_calls.specs.declared.call.Source.{Source}
use Rattle.wd_calls.specs.declared.call.Source.TheVariants as source
use Rattle.wd_calls.specs.Answers.{value_of}
use Rattle.wd_calls.specs.Parts.{IsPartOf}

-- the number, from 0, of the row that is taken from `count` rows
abbrev pub number_of : FrameRow → ℕ → ℕ
number_of First count = 0
number_of Last count = count - 1
number_of (Nth n) count = n - 1

-- an answer for each place, which is the value of the call there
abbrev pub AreCallAnswers : Frame → Function → List Row → PartRule → List Answer → Type 0
AreCallAnswers frame function partition part answers = (class : ClassRule) → IsPartOf class frame partition part → (place : ℕ) (other : Answer) → place < length partition
    → value_of (shown (slice_index_or answers place other)) ≡ call_value class frame function partition place

-- the source is of the function's kind; for a function that takes a row of its frame it has the places of the frames
abbrev pub IsSourceOf : Frame → Function → List Row → PartRule → Source → Type 0
IsSourceOf frame function partition part (source.Ranking ranking) = function ≡ of.Ranking ranking
IsSourceOf frame function partition part (source.Shift shift) = function ≡ of.Shift shift.now
IsSourceOf frame function partition part (source.Row row column lists) = (function ≡ of.OfFrame (ValueAt row column)) × AreFrames part frame (lists_of lists.items)
IsSourceOf frame function partition part (source.Answers answers) = AreCallAnswers frame function partition part answers.items
