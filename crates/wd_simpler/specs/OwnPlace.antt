-- Frames of the row's own place, which hold the row or nothing, and frames that end before they start. A frame of the row's peers without
-- the other peers, or without all of them, holds the same rows, and does not depend on the order.
use Rattle.std.specs.Prelude.{Bool, true, false, ◌&&◌, nat_eq, nat_lt, if◌then◌else◌}
use Rattle.wd_plan.specs.declared.window.Bound.{Bound}
use Rattle.wd_plan.specs.declared.window.Bound.TheVariants.{UnboundedPreceding, Preceding, CurrentRow, Following, UnboundedFollowing}
use Rattle.wd_plan.specs.declared.window.Exclusion.{Exclusion}
use Rattle.wd_plan.specs.declared.window.Exclusion.TheVariants as exclude
use Rattle.wd_plan.specs.declared.window.Frame.{Frame}
use Rattle.wd_plan.specs.declared.window.FrameMode.{FrameMode}
use Rattle.wd_plan.specs.declared.window.FrameMode.TheVariants.{Rows, Range, Groups}

-- CURRENT ROW, 0 PRECEDING or 0 FOLLOWING
abbrev pub is_here : Bound → Bool
is_here UnboundedPreceding = false
is_here (Preceding n) = nat_eq n 0
is_here CurrentRow = true
is_here (Following n) = nat_eq n 0
is_here UnboundedFollowing = false

-- a start that lies after an end, both before the row or both after it
abbrev pub is_past : Bound → Bound → Bool
is_past UnboundedPreceding end = false
is_past (Preceding n) UnboundedPreceding = false
is_past (Preceding n) (Preceding m) = nat_lt n m
is_past (Preceding n) CurrentRow = false
is_past (Preceding n) (Following m) = false
is_past (Preceding n) UnboundedFollowing = false
is_past CurrentRow end = false
is_past (Following n) UnboundedPreceding = false
is_past (Following n) (Preceding m) = false
is_past (Following n) CurrentRow = false
is_past (Following n) (Following m) = nat_lt m n
is_past (Following n) UnboundedFollowing = false
is_past UnboundedFollowing end = false

abbrev pub counts_rows : FrameMode → Bool
counts_rows Rows = true
counts_rows Range = false
counts_rows Groups = false

-- ROWS BETWEEN CURRENT ROW AND CURRENT ROW
abbrev pub is_own_place : Frame → Bool
is_own_place frame = counts_rows frame.mode && (is_here frame.start && is_here frame.end)

-- ROWS BETWEEN 2 PRECEDING AND 3 PRECEDING
abbrev pub is_nowhere : Frame → Bool
is_nowhere frame = counts_rows frame.mode && is_past frame.start frame.end

-- which of the row's peers are excluded: the others where the row is kept, all where it is excluded
abbrev pub peer_exclusion : Exclusion → Exclusion
peer_exclusion exclude.NoOthers = exclude.Ties
peer_exclusion exclude.CurrentRow = exclude.Group
peer_exclusion exclude.Group = exclude.Group
peer_exclusion exclude.Ties = exclude.Ties

-- the row's peers, with this exclusion
abbrev pub peers_without : Exclusion → Frame
peers_without exclusion = record { mode = Range; start = CurrentRow; end = CurrentRow; exclusion = exclusion }

-- a frame, or one by peers in place of a frame that is the row's own place or empty
abbrev pub peer_frame : Frame → Frame
peer_frame frame =
    if is_own_place frame then peers_without (peer_exclusion frame.exclusion)
    else if is_nowhere frame then peers_without exclude.Group
    else frame
