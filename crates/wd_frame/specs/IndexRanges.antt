-- Ranges of the places of a partition, one for each place, whose ends rise; and answers over the values there.
use Rattle.std.specs.Prelude.{◌≡◌, ℕ, ◌+◌, ◌-◌, ◌<◌, ◌≤◌, min, max, List, [], ◌∷◌, ◌++◌, map, length, slice_index_or, take, drop, ⊤}
use Rattle.std.specs.List.{AllByRecursion, range_with_len}
use Rattle.std.specs.declared.alloc.Global.{Global}
use Rattle.std.specs.declared.vec.Vec.{Vec}
use Rattle.wd_value.specs.declared.value.Value.TheVariants.{Null}
use Rattle.wd_plan.specs.declared.window.Exclusion.{Exclusion}
use Rattle.wd_plan.specs.declared.window.Exclusion.TheVariants as exclusion
use Rattle.wd_plan.specs.declared.window.Frame.{Frame}
use Rattle.wd_frame.specs.declared.answer.Answer.{Answer}
use Rattle.wd_frame.specs.declared.exclusion.Zone.{Zone}
use Rattle.wd_frame.specs.declared.exclusion.Zone.TheVariants.{Before, Row, After}
use Rattle.wd_frame.specs.declared.extent.IndexRange.{IndexRange}
use Rattle.wd_frame.specs.Bounds.{IsInOrder, end_of, start_of}
use Rattle.wd_frame.specs.Exclusions.{left_out_from, left_out_to}
use Rattle.wd_frame.specs.Places.{PartRule, places_of}
use Rattle.wd_frame.specs.Slides.{IsAnswer, Plain, Values, shown}

-- the range at a place
abbrev pub range_at : List IndexRange → ℕ → IndexRange
range_at all p = slice_index_or all p (record { start = 0; end = 0 })

-- the places from the start up to the end, none where the end does not pass the start
abbrev pub places_in : IndexRange → List ℕ
places_in s = range_with_len s.start (s.end - s.start)

-- ranges within n places, whose ends do not fall from one place to the next
pub record AreRising (n : ℕ) (all : List IndexRange) : Type 0 where
  pub starts : (p q : ℕ) → p < q → q < length all → (range_at all p).start ≤ (range_at all q).start
  pub ends : (p q : ℕ) → p < q → q < length all → (range_at all p).end ≤ (range_at all q).end
  pub start_within : (p : ℕ) → p < length all → (range_at all p).start ≤ n
  pub end_within : (p : ℕ) → p < length all → (range_at all p).end ≤ n

-- the ranges of the frames of all places, before their exclusion
pub record AreBounds (part : PartRule) (frame : Frame) (all : List IndexRange) : Type 0 where
  pub long : length all ≡ length part.groups
  pub rising : AreRising (length part.groups) all
  pub start : IsInOrder part frame → (p : ℕ) → p < length all → (range_at all p).start ≡ start_of part frame p
  pub end : IsInOrder part frame → (p : ℕ) → p < length all → (range_at all p).end ≡ end_of part frame p

-- ---- frames as lists of ranges

-- one range for each of n places
pub record IsAlong (n : ℕ) (list : List IndexRange) : Type 0 where
  pub long : length list ≡ n
  pub rising : AreRising n list

-- up to three such lists
pub record AreLists (n : ℕ) (lists : List (List IndexRange)) : Type 0 where
  pub some : 0 < length lists
  pub few : length lists ≤ 3
  pub along : AllByRecursion (IsAlong n) lists

abbrev pub lists_of : List (Vec IndexRange Global) → List (List IndexRange)
lists_of lists = map (λ v. v.items) lists

-- the places of the ranges at a place, list by list
abbrev pub places_along : List (List IndexRange) → ℕ → List ℕ
places_along [] p = []
places_along (list ∷ lists) p = places_in (range_at list p) ++ places_along lists p

-- the ranges at each place give the places of its frame
pub record AreFrames (part : PartRule) (frame : Frame) (lists : List (List IndexRange)) : Type 0 where
  pub along : AreLists (length part.groups) lists
  pub places : IsInOrder part frame → (p : ℕ) → p < length part.groups → places_of part frame p ≡ places_along lists p

-- at each of n places the range of `count` places from there on
pub record AreRows (n count : ℕ) (all : List IndexRange) : Type 0 where
  pub long : length all ≡ n
  pub start : (p : ℕ) → p < n → (range_at all p).start ≡ p
  pub end : (p : ℕ) → p < n → (range_at all p).end ≡ p + count

-- the ranges that the exclusion leaves out, with the row itself under TIES
pub record AreLeftOut (part : PartRule) (exclusion : Exclusion) (all : List IndexRange) : Type 0 where
  pub along : IsAlong (length part.groups) all
  pub start : ((frame : Frame) → IsInOrder part frame → (p : ℕ) → p < length part.groups → (range_at all p).start ≡ left_out_from exclusion part p)
  pub end : ((frame : Frame) → IsInOrder part frame → (p : ℕ) → p < length part.groups → (range_at all p).end ≡ left_out_to exclusion part p)

-- a zone of n places: those before a range, the row itself, or those after the range
abbrev pub zone_of : Zone → IndexRange → ℕ → ℕ → IndexRange
zone_of Before left_out p n = record { start = 0; end = left_out.start }
zone_of Row left_out p n = record { start = p; end = p + 1 }
zone_of After left_out p n = record { start = left_out.end; end = n }

-- what two ranges share
abbrev pub shared : IndexRange → IndexRange → IndexRange
shared a b = record { start = max a.start b.start; end = min a.end b.end }

-- the zones that an exclusion keeps
abbrev pub zones_of : Exclusion → List Zone
zones_of exclusion.NoOthers = Before ∷ After ∷ []
zones_of exclusion.CurrentRow = Before ∷ After ∷ []
zones_of exclusion.Group = Before ∷ After ∷ []
zones_of exclusion.Ties = Before ∷ Row ∷ After ∷ []

-- at each place what a range shares with a zone
pub record AreShared (zone : Zone) (bounds left_out : List IndexRange) (all : List IndexRange) : Type 0 where
  pub long : length all ≡ length bounds
  pub each : (p : ℕ) → p < length bounds → range_at all p ≡ shared (range_at bounds p) (zone_of zone (range_at left_out p) p (length bounds))

-- one list for each zone
abbrev pub AreZones : List Zone → List IndexRange → List IndexRange → List (List IndexRange) → Type 0
AreZones [] bounds left_out [] = ⊤
AreZones (zone ∷ zones) bounds left_out (list ∷ lists) = AreShared zone bounds left_out list × AreZones zones bounds left_out lists
AreZones [] bounds left_out (list ∷ lists) = ⊥
AreZones (zone ∷ zones) bounds left_out [] = ⊥

-- ---- answers

-- the values from one place up to another, none where the second does not pass the first
abbrev pub values_in : Values → ℕ → ℕ → Values
values_in values start end = take (end - start) (drop start values)

-- the values at these places
abbrev pub picked : Values → List ℕ → Values
picked values places = map (λ q. slice_index_or values q Null) places

-- the answers over n lists
pub record AreAnswers (plain : Values → Plain) (lists : ℕ → Values) (n : ℕ) (answers : List Answer) : Type 0 where
  pub long : length answers ≡ n
  pub each : (p : ℕ) (other : Answer) → p < n → IsAnswer plain (lists p) (slice_index_or answers p other)

-- the answers over the values at the places of each frame
pub record AreFrameAnswers (plain : Values → Plain) (part : PartRule) (frame : Frame) (values : Values) (answers : List Answer) : Type 0 where
  pub long : length answers ≡ length part.groups
  pub each : IsInOrder part frame → (p : ℕ) (other : Answer) → p < length part.groups → shown (slice_index_or answers p other) ≡ plain (picked values (places_of part frame p))
