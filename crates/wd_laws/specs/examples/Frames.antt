-- Worked examples of frames: which rows are in the frame of each row.
use Rattle.std.specs.Prelude.{◌≡◌, ℕ, List, [], ◌∷◌, Ok, map, length, reverse}
use Rattle.wd_value.specs.declared.value.Value.{Value}
use Rattle.wd_value.specs.declared.value.Value.TheVariants.{Null}
use Rattle.wd_value.specs.Bags.{positions}
use Rattle.wd_value.specs.Rows.{Row, column_of}
use Rattle.wd_plan.specs.declared.window.Bound.TheVariants.{UnboundedPreceding, Preceding, CurrentRow, Following, UnboundedFollowing}
use Rattle.wd_plan.specs.declared.window.FrameMode.TheVariants.{Rows, Range, Groups}
use Rattle.wd_plan.specs.declared.window.Frame.{Frame}
use Rattle.wd_plan.specs.declared.window.Exclusion.{Exclusion}
use Rattle.wd_value.specs.declared.order.SortColumn.{SortColumn}
use Rattle.wd_plan.specs.Frames.{frame_of}
use Rattle.wd_plan.specs.Outcomes.{outcome}
use Rattle.wd_plan.specs.Plans.{PlanTree}
use Rattle.wd_laws.specs.examples.Literals.{n, minus, ascending, descending, count_rows, count, sum, over, between, call_in, window, select, scan_t, four_rows, row, only, a}
use Rattle.wd_plan.specs.declared.window.Exclusion.TheVariants as exclude

-- SELECT id, COUNT(*) OVER (ORDER BY v DESC RANGE BETWEEN 10 PRECEDING AND CURRENT ROW) FROM t
abbrev pub counted_after : PlanTree
counted_after =
    select (0 ∷ 2 ∷ [])
    (window (over [] (descending 1 ∷ []) ∷ []) (call_in (between Range (Preceding 10) CurrentRow) 0 count_rows ∷ [])
    (select (0 ∷ 2 ∷ []) scan_t))

-- SELECT id, COUNT(*) OVER (ORDER BY v DESC RANGE BETWEEN 5 PRECEDING AND CURRENT ROW) FROM t
abbrev pub counted_near_after : PlanTree
counted_near_after =
    select (0 ∷ 2 ∷ [])
    (window (over [] (descending 1 ∷ []) ∷ []) (call_in (between Range (Preceding 5) CurrentRow) 0 count_rows ∷ [])
    (select (0 ∷ 2 ∷ []) scan_t))

-- SELECT id, COUNT(*) OVER (ORDER BY v DESC RANGE BETWEEN CURRENT ROW AND 10 FOLLOWING) FROM t
abbrev pub counted_ahead : PlanTree
counted_ahead =
    select (0 ∷ 2 ∷ [])
    (window (over [] (descending 1 ∷ []) ∷ []) (call_in (between Range CurrentRow (Following 10)) 0 count_rows ∷ [])
    (select (0 ∷ 2 ∷ []) scan_t))

-- SELECT COUNT(*) OVER (ORDER BY v RANGE 1 PRECEDING) FROM t
abbrev pub counted_below : PlanTree
counted_below =
    select (1 ∷ [])
    (window (over [] (ascending 0 ∷ []) ∷ []) (call_in (between Range (Preceding 1) CurrentRow) 0 count_rows ∷ [])
    (select (2 ∷ []) scan_t))

-- SELECT SUM(v) OVER w, COUNT(v) OVER w FROM t WINDOW w AS (ORDER BY id ROWS BETWEEN 7 PRECEDING AND 8 PRECEDING)
abbrev pub far_before : PlanTree
far_before =
    select (2 ∷ 3 ∷ [])
    (window (over [] (ascending 1 ∷ []) ∷ []) (call_in (between Rows (Preceding 7) (Preceding 8)) 0 (sum 0) ∷ call_in (between Rows (Preceding 7) (Preceding 8)) 0 (count 0) ∷ [])
    (select (2 ∷ 0 ∷ []) scan_t))

-- the rows 1 to 6, in their ordering, with the keys 10, 10, 20, 25, NULL and NULL
abbrev pub six_rows : List Row
six_rows = (n 1 ∷ n 10 ∷ []) ∷ (n 2 ∷ n 10 ∷ []) ∷ (n 3 ∷ n 20 ∷ []) ∷ (n 4 ∷ n 25 ∷ []) ∷ (n 5 ∷ Null ∷ []) ∷ (n 6 ∷ Null ∷ []) ∷ []

-- the rows in the frame of each of the rows of a partition list
abbrev pub frames_over : SortColumn → Frame → List Row → List (List Value)
frames_over item frame rows = map (λ i. map (λ r. column_of r 0) (frame_of (over [] (item ∷ [])) frame rows i)) (positions (length rows))

-- OVER (ORDER BY v ..) with this frame
abbrev pub frames : Frame → List (List Value)
frames frame = frames_over (ascending 1) frame six_rows

-- OVER (ORDER BY v DESC ..): the six rows in reverse order
abbrev pub frames_descending : Frame → List (List Value)
frames_descending frame = frames_over (descending 1) frame (reverse six_rows)

abbrev pub excluding : Frame → Exclusion → Frame
excluding frame exclusion = record frame { exclusion = exclusion }

-- the rows with these numbers
abbrev pub are : List (List ℕ) → List (List Value)
are = map (map n)

-- The rows of each frame, for each mode, bound and exclusion.
pub record FramesComeOut : Type 0 where
  -- ROWS BETWEEN UNBOUNDED PRECEDING AND CURRENT ROW
  pub rows_up_to_the_row : frames (between Rows UnboundedPreceding CurrentRow)
      ≡ are ((1 ∷ []) ∷ (1 ∷ 2 ∷ []) ∷ (1 ∷ 2 ∷ 3 ∷ []) ∷ (1 ∷ 2 ∷ 3 ∷ 4 ∷ []) ∷ (1 ∷ 2 ∷ 3 ∷ 4 ∷ 5 ∷ []) ∷ (1 ∷ 2 ∷ 3 ∷ 4 ∷ 5 ∷ 6 ∷ []) ∷ [])
  -- ROWS BETWEEN CURRENT ROW AND UNBOUNDED FOLLOWING
  pub rows_from_the_row_on : frames (between Rows CurrentRow UnboundedFollowing)
      ≡ are ((1 ∷ 2 ∷ 3 ∷ 4 ∷ 5 ∷ 6 ∷ []) ∷ (2 ∷ 3 ∷ 4 ∷ 5 ∷ 6 ∷ []) ∷ (3 ∷ 4 ∷ 5 ∷ 6 ∷ []) ∷ (4 ∷ 5 ∷ 6 ∷ []) ∷ (5 ∷ 6 ∷ []) ∷ (6 ∷ []) ∷ [])
  -- ROWS BETWEEN UNBOUNDED PRECEDING AND UNBOUNDED FOLLOWING
  pub rows_without_bounds : frames (between Rows UnboundedPreceding UnboundedFollowing)
      ≡ are ((1 ∷ 2 ∷ 3 ∷ 4 ∷ 5 ∷ 6 ∷ []) ∷ (1 ∷ 2 ∷ 3 ∷ 4 ∷ 5 ∷ 6 ∷ []) ∷ (1 ∷ 2 ∷ 3 ∷ 4 ∷ 5 ∷ 6 ∷ []) ∷ (1 ∷ 2 ∷ 3 ∷ 4 ∷ 5 ∷ 6 ∷ [])
      ∷ (1 ∷ 2 ∷ 3 ∷ 4 ∷ 5 ∷ 6 ∷ []) ∷ (1 ∷ 2 ∷ 3 ∷ 4 ∷ 5 ∷ 6 ∷ []) ∷ [])
  -- ROWS BETWEEN CURRENT ROW AND CURRENT ROW
  pub rows_at_the_row : frames (between Rows CurrentRow CurrentRow)
      ≡ are ((1 ∷ []) ∷ (2 ∷ []) ∷ (3 ∷ []) ∷ (4 ∷ []) ∷ (5 ∷ []) ∷ (6 ∷ []) ∷ [])
  -- ROWS BETWEEN 2 PRECEDING AND 1 FOLLOWING
  pub rows_about_the_row : frames (between Rows (Preceding 2) (Following 1))
      ≡ are ((1 ∷ 2 ∷ []) ∷ (1 ∷ 2 ∷ 3 ∷ []) ∷ (1 ∷ 2 ∷ 3 ∷ 4 ∷ []) ∷ (2 ∷ 3 ∷ 4 ∷ 5 ∷ []) ∷ (3 ∷ 4 ∷ 5 ∷ 6 ∷ []) ∷ (4 ∷ 5 ∷ 6 ∷ []) ∷ [])
  -- ROWS BETWEEN 2 PRECEDING AND 1 PRECEDING
  pub rows_before_the_row : frames (between Rows (Preceding 2) (Preceding 1))
      ≡ are ([] ∷ (1 ∷ []) ∷ (1 ∷ 2 ∷ []) ∷ (2 ∷ 3 ∷ []) ∷ (3 ∷ 4 ∷ []) ∷ (4 ∷ 5 ∷ []) ∷ [])
  -- ROWS BETWEEN 1 FOLLOWING AND 2 FOLLOWING
  pub rows_following_the_row : frames (between Rows (Following 1) (Following 2))
      ≡ are ((2 ∷ 3 ∷ []) ∷ (3 ∷ 4 ∷ []) ∷ (4 ∷ 5 ∷ []) ∷ (5 ∷ 6 ∷ []) ∷ (6 ∷ []) ∷ [] ∷ [])
  -- ROWS BETWEEN UNBOUNDED PRECEDING AND 1 PRECEDING
  pub rows_up_to_some_before : frames (between Rows UnboundedPreceding (Preceding 1))
      ≡ are ([] ∷ (1 ∷ []) ∷ (1 ∷ 2 ∷ []) ∷ (1 ∷ 2 ∷ 3 ∷ []) ∷ (1 ∷ 2 ∷ 3 ∷ 4 ∷ []) ∷ (1 ∷ 2 ∷ 3 ∷ 4 ∷ 5 ∷ []) ∷ [])
  -- ROWS BETWEEN 1 FOLLOWING AND UNBOUNDED FOLLOWING
  pub rows_from_some_following_on : frames (between Rows (Following 1) UnboundedFollowing)
      ≡ are ((2 ∷ 3 ∷ 4 ∷ 5 ∷ 6 ∷ []) ∷ (3 ∷ 4 ∷ 5 ∷ 6 ∷ []) ∷ (4 ∷ 5 ∷ 6 ∷ []) ∷ (5 ∷ 6 ∷ []) ∷ (6 ∷ []) ∷ [] ∷ [])
  -- ROWS BETWEEN 1 PRECEDING AND 2 PRECEDING
  pub rows_turned_round : frames (between Rows (Preceding 1) (Preceding 2))
      ≡ are ([] ∷ [] ∷ [] ∷ [] ∷ [] ∷ [] ∷ [])
  -- GROUPS BETWEEN UNBOUNDED PRECEDING AND CURRENT ROW
  pub groups_up_to_the_row : frames (between Groups UnboundedPreceding CurrentRow)
      ≡ are ((1 ∷ 2 ∷ []) ∷ (1 ∷ 2 ∷ []) ∷ (1 ∷ 2 ∷ 3 ∷ []) ∷ (1 ∷ 2 ∷ 3 ∷ 4 ∷ []) ∷ (1 ∷ 2 ∷ 3 ∷ 4 ∷ 5 ∷ 6 ∷ []) ∷ (1 ∷ 2 ∷ 3 ∷ 4 ∷ 5 ∷ 6 ∷ []) ∷ [])
  -- GROUPS BETWEEN CURRENT ROW AND UNBOUNDED FOLLOWING
  pub groups_from_the_row_on : frames (between Groups CurrentRow UnboundedFollowing)
      ≡ are ((1 ∷ 2 ∷ 3 ∷ 4 ∷ 5 ∷ 6 ∷ []) ∷ (1 ∷ 2 ∷ 3 ∷ 4 ∷ 5 ∷ 6 ∷ []) ∷ (3 ∷ 4 ∷ 5 ∷ 6 ∷ []) ∷ (4 ∷ 5 ∷ 6 ∷ []) ∷ (5 ∷ 6 ∷ []) ∷ (5 ∷ 6 ∷ []) ∷ [])
  -- GROUPS BETWEEN UNBOUNDED PRECEDING AND UNBOUNDED FOLLOWING
  pub groups_without_bounds : frames (between Groups UnboundedPreceding UnboundedFollowing)
      ≡ are ((1 ∷ 2 ∷ 3 ∷ 4 ∷ 5 ∷ 6 ∷ []) ∷ (1 ∷ 2 ∷ 3 ∷ 4 ∷ 5 ∷ 6 ∷ []) ∷ (1 ∷ 2 ∷ 3 ∷ 4 ∷ 5 ∷ 6 ∷ []) ∷ (1 ∷ 2 ∷ 3 ∷ 4 ∷ 5 ∷ 6 ∷ [])
      ∷ (1 ∷ 2 ∷ 3 ∷ 4 ∷ 5 ∷ 6 ∷ []) ∷ (1 ∷ 2 ∷ 3 ∷ 4 ∷ 5 ∷ 6 ∷ []) ∷ [])
  -- GROUPS BETWEEN CURRENT ROW AND CURRENT ROW
  pub groups_at_the_row : frames (between Groups CurrentRow CurrentRow)
      ≡ are ((1 ∷ 2 ∷ []) ∷ (1 ∷ 2 ∷ []) ∷ (3 ∷ []) ∷ (4 ∷ []) ∷ (5 ∷ 6 ∷ []) ∷ (5 ∷ 6 ∷ []) ∷ [])
  -- GROUPS BETWEEN 2 PRECEDING AND 1 FOLLOWING
  pub groups_about_the_row : frames (between Groups (Preceding 2) (Following 1))
      ≡ are ((1 ∷ 2 ∷ 3 ∷ []) ∷ (1 ∷ 2 ∷ 3 ∷ []) ∷ (1 ∷ 2 ∷ 3 ∷ 4 ∷ []) ∷ (1 ∷ 2 ∷ 3 ∷ 4 ∷ 5 ∷ 6 ∷ []) ∷ (3 ∷ 4 ∷ 5 ∷ 6 ∷ []) ∷ (3 ∷ 4 ∷ 5 ∷ 6 ∷ [])
      ∷ [])
  -- GROUPS BETWEEN 2 PRECEDING AND 1 PRECEDING
  pub groups_before_the_row : frames (between Groups (Preceding 2) (Preceding 1))
      ≡ are ([] ∷ [] ∷ (1 ∷ 2 ∷ []) ∷ (1 ∷ 2 ∷ 3 ∷ []) ∷ (3 ∷ 4 ∷ []) ∷ (3 ∷ 4 ∷ []) ∷ [])
  -- GROUPS BETWEEN 1 FOLLOWING AND 2 FOLLOWING
  pub groups_following_the_row : frames (between Groups (Following 1) (Following 2))
      ≡ are ((3 ∷ 4 ∷ []) ∷ (3 ∷ 4 ∷ []) ∷ (4 ∷ 5 ∷ 6 ∷ []) ∷ (5 ∷ 6 ∷ []) ∷ [] ∷ [] ∷ [])
  -- GROUPS BETWEEN UNBOUNDED PRECEDING AND 1 PRECEDING
  pub groups_up_to_some_before : frames (between Groups UnboundedPreceding (Preceding 1))
      ≡ are ([] ∷ [] ∷ (1 ∷ 2 ∷ []) ∷ (1 ∷ 2 ∷ 3 ∷ []) ∷ (1 ∷ 2 ∷ 3 ∷ 4 ∷ []) ∷ (1 ∷ 2 ∷ 3 ∷ 4 ∷ []) ∷ [])
  -- GROUPS BETWEEN 1 FOLLOWING AND UNBOUNDED FOLLOWING
  pub groups_from_some_following_on : frames (between Groups (Following 1) UnboundedFollowing)
      ≡ are ((3 ∷ 4 ∷ 5 ∷ 6 ∷ []) ∷ (3 ∷ 4 ∷ 5 ∷ 6 ∷ []) ∷ (4 ∷ 5 ∷ 6 ∷ []) ∷ (5 ∷ 6 ∷ []) ∷ [] ∷ [] ∷ [])
  -- GROUPS BETWEEN 1 PRECEDING AND 2 PRECEDING
  pub groups_turned_round : frames (between Groups (Preceding 1) (Preceding 2))
      ≡ are ([] ∷ [] ∷ [] ∷ [] ∷ [] ∷ [] ∷ [])
  -- RANGE BETWEEN UNBOUNDED PRECEDING AND CURRENT ROW
  pub range_up_to_the_row : frames (between Range UnboundedPreceding CurrentRow)
      ≡ are ((1 ∷ 2 ∷ []) ∷ (1 ∷ 2 ∷ []) ∷ (1 ∷ 2 ∷ 3 ∷ []) ∷ (1 ∷ 2 ∷ 3 ∷ 4 ∷ []) ∷ (1 ∷ 2 ∷ 3 ∷ 4 ∷ 5 ∷ 6 ∷ []) ∷ (1 ∷ 2 ∷ 3 ∷ 4 ∷ 5 ∷ 6 ∷ []) ∷ [])
  -- RANGE BETWEEN CURRENT ROW AND UNBOUNDED FOLLOWING
  pub range_from_the_row_on : frames (between Range CurrentRow UnboundedFollowing)
      ≡ are ((1 ∷ 2 ∷ 3 ∷ 4 ∷ 5 ∷ 6 ∷ []) ∷ (1 ∷ 2 ∷ 3 ∷ 4 ∷ 5 ∷ 6 ∷ []) ∷ (3 ∷ 4 ∷ 5 ∷ 6 ∷ []) ∷ (4 ∷ 5 ∷ 6 ∷ []) ∷ (5 ∷ 6 ∷ []) ∷ (5 ∷ 6 ∷ []) ∷ [])
  -- RANGE BETWEEN UNBOUNDED PRECEDING AND UNBOUNDED FOLLOWING
  pub range_without_bounds : frames (between Range UnboundedPreceding UnboundedFollowing)
      ≡ are ((1 ∷ 2 ∷ 3 ∷ 4 ∷ 5 ∷ 6 ∷ []) ∷ (1 ∷ 2 ∷ 3 ∷ 4 ∷ 5 ∷ 6 ∷ []) ∷ (1 ∷ 2 ∷ 3 ∷ 4 ∷ 5 ∷ 6 ∷ []) ∷ (1 ∷ 2 ∷ 3 ∷ 4 ∷ 5 ∷ 6 ∷ [])
      ∷ (1 ∷ 2 ∷ 3 ∷ 4 ∷ 5 ∷ 6 ∷ []) ∷ (1 ∷ 2 ∷ 3 ∷ 4 ∷ 5 ∷ 6 ∷ []) ∷ [])
  -- RANGE BETWEEN CURRENT ROW AND CURRENT ROW
  pub range_at_the_row : frames (between Range CurrentRow CurrentRow)
      ≡ are ((1 ∷ 2 ∷ []) ∷ (1 ∷ 2 ∷ []) ∷ (3 ∷ []) ∷ (4 ∷ []) ∷ (5 ∷ 6 ∷ []) ∷ (5 ∷ 6 ∷ []) ∷ [])
  -- RANGE BETWEEN 10 PRECEDING AND 5 FOLLOWING
  pub range_about_the_row : frames (between Range (Preceding 10) (Following 5))
      ≡ are ((1 ∷ 2 ∷ []) ∷ (1 ∷ 2 ∷ []) ∷ (1 ∷ 2 ∷ 3 ∷ 4 ∷ []) ∷ (3 ∷ 4 ∷ []) ∷ (5 ∷ 6 ∷ []) ∷ (5 ∷ 6 ∷ []) ∷ [])
  -- RANGE BETWEEN 10 PRECEDING AND 5 PRECEDING
  pub range_before_the_row : frames (between Range (Preceding 10) (Preceding 5))
      ≡ are ([] ∷ [] ∷ (1 ∷ 2 ∷ []) ∷ (3 ∷ []) ∷ (5 ∷ 6 ∷ []) ∷ (5 ∷ 6 ∷ []) ∷ [])
  -- RANGE BETWEEN 5 FOLLOWING AND 10 FOLLOWING
  pub range_following_the_row : frames (between Range (Following 5) (Following 10))
      ≡ are ((3 ∷ []) ∷ (3 ∷ []) ∷ (4 ∷ []) ∷ [] ∷ (5 ∷ 6 ∷ []) ∷ (5 ∷ 6 ∷ []) ∷ [])
  -- RANGE BETWEEN UNBOUNDED PRECEDING AND 5 PRECEDING
  pub range_up_to_some_before : frames (between Range UnboundedPreceding (Preceding 5))
      ≡ are ([] ∷ [] ∷ (1 ∷ 2 ∷ []) ∷ (1 ∷ 2 ∷ 3 ∷ []) ∷ (1 ∷ 2 ∷ 3 ∷ 4 ∷ 5 ∷ 6 ∷ []) ∷ (1 ∷ 2 ∷ 3 ∷ 4 ∷ 5 ∷ 6 ∷ []) ∷ [])
  -- RANGE BETWEEN 5 FOLLOWING AND UNBOUNDED FOLLOWING
  pub range_from_some_following_on : frames (between Range (Following 5) UnboundedFollowing)
      ≡ are ((3 ∷ 4 ∷ 5 ∷ 6 ∷ []) ∷ (3 ∷ 4 ∷ 5 ∷ 6 ∷ []) ∷ (4 ∷ 5 ∷ 6 ∷ []) ∷ (5 ∷ 6 ∷ []) ∷ (5 ∷ 6 ∷ []) ∷ (5 ∷ 6 ∷ []) ∷ [])
  -- RANGE BETWEEN 5 PRECEDING AND 10 PRECEDING
  pub range_turned_round : frames (between Range (Preceding 5) (Preceding 10))
      ≡ are ([] ∷ [] ∷ [] ∷ [] ∷ (5 ∷ 6 ∷ []) ∷ (5 ∷ 6 ∷ []) ∷ [])
  -- ORDER BY v DESC RANGE BETWEEN 10 PRECEDING AND 5 FOLLOWING: under DESC an offset PRECEDING reaches larger keys, and FOLLOWING
  -- smaller ones.
  pub range_descending_about_the_row : frames_descending (between Range (Preceding 10) (Following 5))
      ≡ are ((6 ∷ 5 ∷ []) ∷ (6 ∷ 5 ∷ []) ∷ (4 ∷ 3 ∷ []) ∷ (4 ∷ 3 ∷ []) ∷ (3 ∷ 2 ∷ 1 ∷ []) ∷ (3 ∷ 2 ∷ 1 ∷ []) ∷ [])
  -- ORDER BY v DESC RANGE BETWEEN 10 PRECEDING AND 5 PRECEDING
  pub range_descending_before_the_row : frames_descending (between Range (Preceding 10) (Preceding 5))
      ≡ are ((6 ∷ 5 ∷ []) ∷ (6 ∷ 5 ∷ []) ∷ [] ∷ (4 ∷ []) ∷ (3 ∷ []) ∷ (3 ∷ []) ∷ [])
  -- ORDER BY v DESC RANGE BETWEEN 5 FOLLOWING AND 10 FOLLOWING
  pub range_descending_following_the_row : frames_descending (between Range (Following 5) (Following 10))
      ≡ are ((6 ∷ 5 ∷ []) ∷ (6 ∷ 5 ∷ []) ∷ (3 ∷ []) ∷ (2 ∷ 1 ∷ []) ∷ [] ∷ [] ∷ [])
  -- ORDER BY v DESC RANGE BETWEEN UNBOUNDED PRECEDING AND CURRENT ROW: NULL comes first.
  pub range_descending_up_to_the_row : frames_descending (between Range UnboundedPreceding CurrentRow)
      ≡ are ((6 ∷ 5 ∷ []) ∷ (6 ∷ 5 ∷ []) ∷ (6 ∷ 5 ∷ 4 ∷ []) ∷ (6 ∷ 5 ∷ 4 ∷ 3 ∷ []) ∷ (6 ∷ 5 ∷ 4 ∷ 3 ∷ 2 ∷ 1 ∷ []) ∷ (6 ∷ 5 ∷ 4 ∷ 3 ∷ 2 ∷ 1 ∷ []) ∷ [])
  -- RANGE BETWEEN 0 PRECEDING AND 0 FOLLOWING: an offset of zero reaches the peers.
  pub range_at_a_distance_of_zero : frames (between Range (Preceding 0) (Following 0))
      ≡ are ((1 ∷ 2 ∷ []) ∷ (1 ∷ 2 ∷ []) ∷ (3 ∷ []) ∷ (4 ∷ []) ∷ (5 ∷ 6 ∷ []) ∷ (5 ∷ 6 ∷ []) ∷ [])
  -- ROWS BETWEEN 1 PRECEDING AND 1 FOLLOWING EXCLUDE NO OTHERS
  pub leaving_nobody_out : frames (excluding (between Rows (Preceding 1) (Following 1)) exclude.NoOthers)
      ≡ are ((1 ∷ 2 ∷ []) ∷ (1 ∷ 2 ∷ 3 ∷ []) ∷ (2 ∷ 3 ∷ 4 ∷ []) ∷ (3 ∷ 4 ∷ 5 ∷ []) ∷ (4 ∷ 5 ∷ 6 ∷ []) ∷ (5 ∷ 6 ∷ []) ∷ [])
  -- ROWS BETWEEN 1 PRECEDING AND 1 FOLLOWING EXCLUDE CURRENT ROW
  pub leaving_the_row_out : frames (excluding (between Rows (Preceding 1) (Following 1)) exclude.CurrentRow)
      ≡ are ((2 ∷ []) ∷ (1 ∷ 3 ∷ []) ∷ (2 ∷ 4 ∷ []) ∷ (3 ∷ 5 ∷ []) ∷ (4 ∷ 6 ∷ []) ∷ (5 ∷ []) ∷ [])
  -- ROWS BETWEEN 1 PRECEDING AND 1 FOLLOWING EXCLUDE GROUP
  pub leaving_the_group_out : frames (excluding (between Rows (Preceding 1) (Following 1)) exclude.Group)
      ≡ are ([] ∷ (3 ∷ []) ∷ (2 ∷ 4 ∷ []) ∷ (3 ∷ 5 ∷ []) ∷ (4 ∷ []) ∷ [] ∷ [])
  -- ROWS BETWEEN 1 PRECEDING AND 1 FOLLOWING EXCLUDE TIES
  pub leaving_the_ties_out : frames (excluding (between Rows (Preceding 1) (Following 1)) exclude.Ties)
      ≡ are ((1 ∷ []) ∷ (2 ∷ 3 ∷ []) ∷ (2 ∷ 3 ∷ 4 ∷ []) ∷ (3 ∷ 4 ∷ 5 ∷ []) ∷ (4 ∷ 5 ∷ []) ∷ (6 ∷ []) ∷ [])
  -- GROUPS BETWEEN 1 PRECEDING AND CURRENT ROW EXCLUDE CURRENT ROW
  pub groups_leaving_the_row_out : frames (excluding (between Groups (Preceding 1) CurrentRow) exclude.CurrentRow)
      ≡ are ((2 ∷ []) ∷ (1 ∷ []) ∷ (1 ∷ 2 ∷ []) ∷ (3 ∷ []) ∷ (4 ∷ 6 ∷ []) ∷ (4 ∷ 5 ∷ []) ∷ [])
  -- GROUPS BETWEEN 1 PRECEDING AND CURRENT ROW EXCLUDE GROUP
  pub groups_leaving_the_group_out : frames (excluding (between Groups (Preceding 1) CurrentRow) exclude.Group)
      ≡ are ([] ∷ [] ∷ (1 ∷ 2 ∷ []) ∷ (3 ∷ []) ∷ (4 ∷ []) ∷ (4 ∷ []) ∷ [])
  -- GROUPS BETWEEN 1 PRECEDING AND CURRENT ROW EXCLUDE TIES
  pub groups_leaving_the_ties_out : frames (excluding (between Groups (Preceding 1) CurrentRow) exclude.Ties)
      ≡ are ((1 ∷ []) ∷ (2 ∷ []) ∷ (1 ∷ 2 ∷ 3 ∷ []) ∷ (3 ∷ 4 ∷ []) ∷ (4 ∷ 5 ∷ []) ∷ (4 ∷ 6 ∷ []) ∷ [])
  -- RANGE BETWEEN 10 PRECEDING AND 5 FOLLOWING EXCLUDE CURRENT ROW
  pub range_leaving_the_row_out : frames (excluding (between Range (Preceding 10) (Following 5)) exclude.CurrentRow)
      ≡ are ((2 ∷ []) ∷ (1 ∷ []) ∷ (1 ∷ 2 ∷ 4 ∷ []) ∷ (3 ∷ []) ∷ (6 ∷ []) ∷ (5 ∷ []) ∷ [])
  -- RANGE BETWEEN 10 PRECEDING AND 5 FOLLOWING EXCLUDE GROUP
  pub range_leaving_the_group_out : frames (excluding (between Range (Preceding 10) (Following 5)) exclude.Group)
      ≡ are ([] ∷ [] ∷ (1 ∷ 2 ∷ 4 ∷ []) ∷ (3 ∷ []) ∷ [] ∷ [] ∷ [])
  -- RANGE BETWEEN 10 PRECEDING AND 5 FOLLOWING EXCLUDE TIES
  pub range_leaving_the_ties_out : frames (excluding (between Range (Preceding 10) (Following 5)) exclude.Ties)
      ≡ are ((1 ∷ []) ∷ (2 ∷ []) ∷ (1 ∷ 2 ∷ 3 ∷ 4 ∷ []) ∷ (3 ∷ 4 ∷ []) ∷ (5 ∷ []) ∷ (6 ∷ []) ∷ [])
  -- ROWS BETWEEN 1 FOLLOWING AND 2 FOLLOWING EXCLUDE TIES: an exclusion never adds the row.
  pub no_exclusion_adds_the_row : frames (excluding (between Rows (Following 1) (Following 2)) exclude.Ties)
      ≡ are ((3 ∷ []) ∷ (3 ∷ 4 ∷ []) ∷ (4 ∷ 5 ∷ []) ∷ (5 ∷ 6 ∷ []) ∷ [] ∷ [] ∷ [])
  -- Under DESC the comparisons of RANGE are mirrored; a NULL key meets only NULL keys.
  pub count_in_a_descending_range : outcome counted_after four_rows ((3 ∷ 2 ∷ 0 ∷ 1 ∷ []) ∷ [])
      ≡ Ok ((n 1 ∷ n 3 ∷ []) ∷ (n 2 ∷ n 3 ∷ []) ∷ (n 3 ∷ n 1 ∷ []) ∷ (n 4 ∷ n 1 ∷ []) ∷ [])
  -- Under DESC an offset PRECEDING reaches larger keys, here none.
  pub count_in_a_narrow_descending_range : outcome counted_near_after four_rows ((3 ∷ 2 ∷ 0 ∷ 1 ∷ []) ∷ [])
      ≡ Ok ((n 1 ∷ n 2 ∷ []) ∷ (n 2 ∷ n 2 ∷ []) ∷ (n 3 ∷ n 1 ∷ []) ∷ (n 4 ∷ n 1 ∷ []) ∷ [])
  -- Under DESC an offset FOLLOWING reaches smaller keys.
  pub count_in_a_descending_range_that_looks_ahead : outcome counted_ahead four_rows ((3 ∷ 2 ∷ 0 ∷ 1 ∷ []) ∷ [])
      ≡ Ok ((n 1 ∷ n 2 ∷ []) ∷ (n 2 ∷ n 2 ∷ []) ∷ (n 3 ∷ n 3 ∷ []) ∷ (n 4 ∷ n 1 ∷ []) ∷ [])
  -- Key differences in RANGE are over unbounded whole numbers and never fault.
  pub evaluate_range_offset_below_the_least_number : outcome counted_below (only (row 1 a (minus 9223372036854775808) ∷ [])) ((0 ∷ []) ∷ [])
      ≡ Ok ((n 1 ∷ []) ∷ [])
  -- A frame whose end lies before its start selects no row.
  pub evaluate_frame_that_selects_no_row : outcome far_before (only (row 1 a (n 5) ∷ [])) ((0 ∷ []) ∷ [])
      ≡ Ok ((Null ∷ n 0 ∷ []) ∷ [])
