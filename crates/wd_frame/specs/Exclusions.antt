-- A frame with an exclusion: two or three ranges of places.
use Rattle.std.specs.Prelude.{◌≡◌, ℕ, ◌+◌, ◌-◌, ◌<◌, min, max, List, ◌++◌, length}
use Rattle.std.specs.List.{range_with_len}
use Rattle.wd_plan.specs.declared.window.Bound.TheVariants.{CurrentRow}
use Rattle.wd_plan.specs.declared.window.Exclusion.{Exclusion}
use Rattle.wd_plan.specs.declared.window.Exclusion.TheVariants as exclusion
use Rattle.wd_plan.specs.declared.window.Frame.{Frame}
use Rattle.wd_plan.specs.declared.window.FrameMode.TheVariants as mode
use Rattle.wd_frame.specs.Bounds.{IsInOrder, end_of, start_of}
use Rattle.wd_frame.specs.Places.{PartRule, places_of}

-- the row's peers, as a frame
abbrev pub peers : Frame
peers = record { mode = mode.Groups; start = CurrentRow; end = CurrentRow; exclusion = exclusion.NoOthers }

-- the places that an exclusion leaves out, with the row itself under TIES: from one number up to another
abbrev pub left_out_from : Exclusion → PartRule → ℕ → ℕ
left_out_from exclusion.NoOthers part p = p
left_out_from exclusion.CurrentRow part p = p
left_out_from exclusion.Group part p = start_of part peers p
left_out_from exclusion.Ties part p = start_of part peers p

abbrev pub left_out_to : Exclusion → PartRule → ℕ → ℕ
left_out_to exclusion.NoOthers part p = p
left_out_to exclusion.CurrentRow part p = p + 1
left_out_to exclusion.Group part p = end_of part peers p
left_out_to exclusion.Ties part p = end_of part peers p

-- the places between the bounds of a frame from one number up to another
abbrev pub zone : PartRule → Frame → ℕ → ℕ → ℕ → List ℕ
zone part frame p from to = range_with_len (max (start_of part frame p) from) (min (end_of part frame p) to - max (start_of part frame p) from)

-- the places before what the exclusion leaves out, and those after it
abbrev pub before : PartRule → Frame → ℕ → List ℕ
before part frame p = zone part frame p 0 (left_out_from frame.exclusion part p)

abbrev pub after : PartRule → Frame → ℕ → List ℕ
after part frame p = zone part frame p (left_out_to frame.exclusion part p) (length part.groups)

pub record ExclusionsAreRanges : Type 0 where
  pub current_row : (part : PartRule) (frame : Frame) (p : ℕ) → IsInOrder part frame → frame.exclusion ≡ exclusion.CurrentRow → p < length part.groups
      → places_of part frame p ≡ before part frame p ++ after part frame p
  pub group : (part : PartRule) (frame : Frame) (p : ℕ) → IsInOrder part frame → frame.exclusion ≡ exclusion.Group → p < length part.groups
      → places_of part frame p ≡ before part frame p ++ after part frame p
  pub ties : (part : PartRule) (frame : Frame) (p : ℕ) → IsInOrder part frame → frame.exclusion ≡ exclusion.Ties → p < length part.groups
      → places_of part frame p ≡ before part frame p ++ (zone part frame p p (p + 1) ++ after part frame p)
