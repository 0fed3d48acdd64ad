-- The values that sources make are the values of calls.
use Rattle.std.proofs.Common.{◌≡◌, ◌∙◌, ℕ, ◌-◌, ◌^◌, ◌<◌, ◌≤◌, ◌⊎◌, inl, inr, List, [], ◌∷◌, length, map, get_or, refl, sym, ap, arith, Ok, Some, None}
use Rattle.std.proofs.lemmas.Bool.{cases_lt}
use Rattle.std.proofs.lemmas.List.{get_or-map, get_or-reverse, get_or_past, length-map}
use Rattle.std.proofs.lemmas.Option.{get_or_from_slice_get, slice_get-get_or, slice_get_within}
use Rattle.std.specs.List.{slice_get}
use Rattle.std.proofs.lemmas.List.Sums.{count_by-le-length, length-filter}
use Rattle.std.proofs.lemmas.List.FromFn.{length-range_with_len}
use Rattle.wd_value.specs.declared.value.Value.{Value}
use Rattle.wd_value.specs.declared.value.Value.TheVariants.{Null}
use Rattle.wd_value.specs.Bags.{positions}
use Rattle.wd_value.specs.Rows.{Row, rows_at}
use Rattle.wd_plan.specs.declared.window.Frame.{Frame}
use Rattle.wd_plan.specs.declared.function.Aggregate.{Aggregate as AggregateFunction}
use Rattle.wd_plan.specs.declared.function.FrameFunction.{FrameFunction}
use Rattle.wd_plan.specs.declared.function.FrameFunction.TheVariants.{ValueAt, Aggregate}
use Rattle.wd_plan.specs.declared.function.FrameRow.{FrameRow}
use Rattle.wd_plan.specs.declared.function.FrameRow.TheVariants.{First, Last, Nth}
use Rattle.wd_plan.specs.declared.function.Function.{Function}
use Rattle.wd_plan.specs.declared.function.Function.TheVariants.{OfFrame}
use Rattle.wd_plan.specs.Calls.{call_value, frame_value, taken}
use Rattle.wd_plan.specs.Partitions.{group_of}
use Rattle.wd_plan.specs.Plans.{ClassRule}
use Rattle.wd_frame.specs.declared.answer.Answer.{Answer}
use Rattle.wd_frame.specs.declared.extent.IndexRange.{IndexRange}
use Rattle.wd_frame.specs.Places.{PartRule, is_member, places_of}
use Rattle.wd_frame.specs.IndexRanges.{AreFrames, places_along}
use Rattle.wd_calls.specs.Answers.{AreAnswersOf}
use Rattle.wd_calls.specs.Parts.{IsPartOf, IsValueAt}
use Rattle.wd_calls.specs.Sources.{AreCallAnswers, number_of}
use Rattle.wd_calls.specs.Values.{value_in, values_at}
use Rattle.wd_calls.proofs.Columns.{flat}
use Rattle.wd_calls.proofs.FrameCalls.{frame_call}
use Rattle.wd_calls.proofs.InOrder.{in_order}

pub part-long : {class : ClassRule} {frame : Frame} {partition : List Row} {part : PartRule} → IsPartOf class frame partition part → length part.groups ≡ length partition
part-long {class} {frame} {partition} {part} is = ap length is.groups ∙ length-map partition (group_of class partition)

-- ---- frames

module _ {class : ClassRule} {frame : Frame} {partition : List Row} {part : PartRule} (place : ℕ) (is : IsPartOf class frame partition part) (within : place < length partition) where
  pub frame_places : (lists : List (List IndexRange)) → AreFrames part frame lists → places_of part frame place ≡ places_along lists place
  frame_places lists are = are.places (in_order is) place (let long = part-long is in omega arith)

  -- a frame has no more places than the partition
  pub few_places : (lists : List (List IndexRange)) → AreFrames part frame lists → length (places_along lists place) ≤ length partition
  few_places lists are =
      let same = ap length (frame_places lists are) in
      let long = part-long is in
      let count = length-filter (is_member part frame place) (positions (length part.groups)) in
      let most = count_by-le-length (is_member part frame place) (positions (length part.groups)) in
      let all = length-range_with_len 0 (length part.groups) in
      omega arith

  pub over_frame : (function : FrameFunction) (lists : List (List IndexRange)) → AreFrames part frame lists → frame_value function (rows_at partition (places_along lists place)) ≡ call_value class frame (OfFrame function) partition place
  over_frame function lists are = ap (λ ps. frame_value function (rows_at partition ps)) (sym (frame_places lists are)) ∙ frame_call place is within function

pub answers_of_calls : (frame : Frame) (aggregate : AggregateFunction) (partition : List Row) (part : PartRule) (count : ℕ) (lists : List (List IndexRange)) (answers : List Answer)
    → length part.groups ≡ count → length partition < 2 ^ 63 → AreFrames part frame lists → AreAnswersOf aggregate partition count lists answers → AreCallAnswers frame (OfFrame (Aggregate aggregate)) partition part answers
answers_of_calls frame aggregate partition part count lists answers long small frames are class is place other within =
    let same = part-long is in
    let few = few_places place is within lists frames in
    are.each (sym long ∙ same) place other (omega arith) (omega arith) ∙ over_frame place is within (Aggregate aggregate) lists frames

pub row_value : (frame : Frame) (function : Function) (row : FrameRow) (c : ℕ) (partition : List Row) (part : PartRule) (lists : List (List IndexRange)) (place : ℕ) (value : Value)
    → function ≡ OfFrame (ValueAt row c) → AreFrames part frame lists → length partition < 2 ^ 63 → (length (places_along lists place) < 2 ^ 64 → value ≡ taken row (values_at partition c (places_along lists place)))
    → IsValueAt frame function partition part place (Ok value)
row_value frame function row c partition part lists place value e frames small taken class is within =
    let few = few_places place is within lists frames in
    ap Ok (taken (omega arith)) ∙ over_frame place is within (ValueAt row c) lists frames ∙ ap (λ f. call_value class frame f partition place) (sym e)

-- ---- the row that is taken

taken-is : (row : FrameRow) (vs : List Value) → taken row vs ≡ get_or vs (number_of row (length vs)) Null
taken-is First vs = refl
taken-is (Nth n) vs = refl
taken-is Last [] = refl
taken-is Last (v ∷ vs) = let last : length (v ∷ vs) - 1 - 0 ≡ length (v ∷ vs) - 1 = omega arith in get_or-reverse (v ∷ vs) 0 Null (omega arith) ∙ ap (λ n. get_or (v ∷ vs) n Null) last

taken_at : (row : FrameRow) (partition : List Row) (c : ℕ) (places : List ℕ) → taken row (values_at partition c places) ≡ get_or (map (value_in partition c) places) (number_of row (length places)) Null
taken_at row partition c places =
    taken-is row (values_at partition c places)
    ∙ (λ i. get_or (flat partition c places i) (number_of row (length (flat partition c places i))) Null)
    ∙ ap (λ n. get_or (map (value_in partition c) places) (number_of row n) Null) (length-map places (value_in partition c))

pub taken_some : (row : FrameRow) (partition : List Row) (c : ℕ) (places : List ℕ) (number p : ℕ) → number ≡ number_of row (length places) → Some p ≡ slice_get places number → value_in partition c p ≡ taken row (values_at partition c places)
taken_some row partition c places number p n e =
    sym (taken_at row partition c places ∙ ap (λ k. get_or (map (value_in partition c) places) k Null) (sym n)
    ∙ get_or-map (value_in partition c) places number 0 Null (slice_get_within places number p (sym e))
    ∙ ap (value_in partition c) (get_or_from_slice_get places number p 0 (sym e)))

pub taken_none : (row : FrameRow) (partition : List Row) (c : ℕ) (places : List ℕ) (number : ℕ) → number ≡ number_of row (length places) → None ≡ slice_get places number → Null ≡ taken row (values_at partition c places)
taken_none row partition c places number n e =
    sym (taken_at row partition c places ∙ ap (λ k. get_or (map (value_in partition c) places) k Null) (sym n) ∙ get_or_past (map (value_in partition c) places) number Null (past (cases_lt number (length places))))
  where
    past : (number < length places) ⊎ (length places ≤ number) → length (map (value_in partition c) places) ≤ number
    past (inl l) = absurd (let some = slice_get-get_or places number 0 l in let no = e ∙ some in cc no)
    past (inr le) = let long = length-map places (value_in partition c) in omega arith
