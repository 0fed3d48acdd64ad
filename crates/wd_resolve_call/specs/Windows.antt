-- What windows mean: their partition and order, their frame, and what they copy (SQL, window clause, window specification;
-- PG, Window Function Calls, SELECT: WINDOW Clause).
use Rattle.std.specs.Prelude.{ℕ, Bool, true, false, not, ◌&&◌, ◌||◌, List, [], ◌∷◌, map, Option, Some, None, is_some, Ok, Err, if◌then◌else◌}
use Rattle.std.specs.Str.{bytes_eq}
use Rattle.wd_value.specs.declared.order.SortKey.{SortKey}
use Rattle.wd_syntax.specs.declared.expression.SortDirection.{SortDirection}
use Rattle.wd_syntax.specs.declared.expression.SortDirection.TheVariants.{Ascending, Descending}
use Rattle.wd_syntax.specs.declared.expression.NullsPlace.{NullsPlace}
use Rattle.wd_syntax.specs.declared.expression.NullsPlace.TheVariants as nulls
use Rattle.wd_syntax.specs.declared.frame.Frame.{Frame as WrittenFrame}
use Rattle.wd_syntax.specs.declared.frame.FrameMode.{FrameMode as WrittenMode}
use Rattle.wd_syntax.specs.declared.frame.FrameMode.TheVariants as written_mode
use Rattle.wd_syntax.specs.declared.frame.Bound.{Bound as WrittenBound}
use Rattle.wd_syntax.specs.declared.frame.Bound.TheVariants as written
use Rattle.wd_syntax.specs.declared.frame.Extent.{Extent}
use Rattle.wd_syntax.specs.declared.frame.Extent.TheVariants.{Start, Between}
use Rattle.wd_syntax.specs.declared.frame.Exclusion.{Exclusion as WrittenExclusion}
use Rattle.wd_syntax.specs.declared.frame.Exclusion.TheVariants as written_exclusion
use Rattle.wd_plan.specs.declared.expression.ValueKind.{ValueKind}
use Rattle.wd_plan.specs.declared.expression.ValueKind.TheVariants.{Number}
use Rattle.wd_plan.specs.declared.window.Frame.{Frame}
use Rattle.wd_plan.specs.declared.window.FrameMode.{FrameMode}
use Rattle.wd_plan.specs.declared.window.FrameMode.TheVariants as mode
use Rattle.wd_plan.specs.declared.window.Bound.{Bound}
use Rattle.wd_plan.specs.declared.window.Bound.TheVariants.{UnboundedPreceding, Preceding, CurrentRow, Following, UnboundedFollowing}
use Rattle.wd_plan.specs.declared.window.Exclusion.{Exclusion}
use Rattle.wd_plan.specs.declared.window.Exclusion.TheVariants as exclude
use Rattle.wd_plan.specs.Fits.{same_kind, are_bounds, has_offset}
use Rattle.wd_resolve_operand.specs.declared.cause.Cause.TheVariants.{UnknownWindow, WindowCopy, FrameBounds, RangeOffset, GroupsWithoutOrder}
use Rattle.wd_resolve_call.specs.declared.window.OrderKey.{OrderKey}
use Rattle.wd_resolve_call.specs.declared.window.Window.{Window}
use Rattle.wd_resolve_call.specs.declared.window.KnownWindow.{KnownWindow}
use Rattle.wd_resolve_operand.specs.Causes.{Meant, ◌>>=◌}
use Rattle.wd_resolve_operand.specs.Operands.{number}
use Rattle.wd_resolve_call.specs.Rows.{RowExpression, row_expression_of}

-- an expression to sort by, the kind of its values, and how they are sorted
pub record BoundKey : Type 0 where
  pub expression : RowExpression
  pub kind : ValueKind
  pub key : SortKey

abbrev pub key_of : OrderKey → BoundKey
key_of k = record { expression = row_expression_of k.expression; kind = k.kind; key = k.key }

-- a window, and whether its frame is written
pub record BoundWindow : Type 0 where
  pub partition : List RowExpression
  pub order : List BoundKey
  pub frame : Frame
  pub framed : Bool

abbrev pub window_of : Window → BoundWindow
window_of w = record { partition = map row_expression_of w.partition.value.items; order = map key_of w.order.value.items; frame = w.frame; framed = w.framed }

-- ---- sort keys

abbrev pub is_descending : Option SortDirection → Bool
is_descending None = false
is_descending (Some Ascending) = false
is_descending (Some Descending) = true

-- where NULLs are not placed, they come last ascending and first descending
abbrev pub are_nulls_first : Option NullsPlace → Bool → Bool
are_nulls_first None descending = descending
are_nulls_first (Some nulls.First) descending = true
are_nulls_first (Some nulls.Last) descending = false

abbrev pub sort_key : Option SortDirection → Option NullsPlace → SortKey
sort_key direction place = record { desc = is_descending direction; nulls_first = are_nulls_first place (is_descending direction) }

-- ---- frames

abbrev pub mode_meant : WrittenMode → FrameMode
mode_meant written_mode.Rows = mode.Rows
mode_meant written_mode.Range = mode.Range
mode_meant written_mode.Groups = mode.Groups

abbrev pub bound_meant : WrittenBound → Meant Bound
bound_meant written.UnboundedPreceding = Ok UnboundedPreceding
bound_meant (written.Preceding n) = number n >>= λ m. Ok (Preceding m)
bound_meant written.CurrentRow = Ok CurrentRow
bound_meant (written.Following n) = number n >>= λ m. Ok (Following m)
bound_meant written.UnboundedFollowing = Ok UnboundedFollowing

-- an omitted end is CURRENT ROW
abbrev pub ends_meant : Extent → Meant (Bound × Bound)
ends_meant (Start a) = bound_meant a >>= λ start. Ok (start, CurrentRow)
ends_meant (Between a b) = bound_meant a >>= λ start. bound_meant b >>= λ end. Ok (start, end)

abbrev pub exclusion_meant : Option WrittenExclusion → Exclusion
exclusion_meant None = exclude.NoOthers
exclusion_meant (Some written_exclusion.NoOthers) = exclude.NoOthers
exclusion_meant (Some written_exclusion.CurrentRow) = exclude.CurrentRow
exclusion_meant (Some written_exclusion.Group) = exclude.Group
exclusion_meant (Some written_exclusion.Ties) = exclude.Ties

-- the frame of a window without a frame clause
abbrev pub default_frame : Frame
default_frame = record { mode = mode.Range; start = UnboundedPreceding; end = CurrentRow; exclusion = exclude.NoOthers }

abbrev pub frame_meant : Option WrittenFrame → Meant Frame
frame_meant None = Ok default_frame
frame_meant (Some f) = ends_meant f.extent >>= λ ends. Ok (record { mode = mode_meant f.mode; start = ends.0; end = ends.1; exclusion = exclusion_meant f.exclusion })

-- exactly one sort key, of whole numbers
abbrev pub is_one_number : List BoundKey → Bool
is_one_number [] = false
is_one_number (key ∷ []) = same_kind Number key.kind
is_one_number (key ∷ other ∷ keys) = false

abbrev pub is_empty : {A : Type 0} → List A → Bool
is_empty [] = true
is_empty (x ∷ xs) = false

-- an offset in RANGE needs exactly one sort key, of whole numbers, and GROUPS needs sort keys
abbrev pub framed_by_mode : FrameMode → List BoundKey → Frame → Meant Frame
framed_by_mode mode.Rows order frame = Ok frame
framed_by_mode mode.Range order frame = if (has_offset frame.start || has_offset frame.end) && not (is_one_number order) then Err RangeOffset else Ok frame
framed_by_mode mode.Groups order frame = if is_empty order then Err GroupsWithoutOrder else Ok frame

-- the frame over these sort keys; its bounds have to be in order
abbrev pub frame_over : List BoundKey → Frame → Meant Frame
frame_over order frame = if are_bounds frame.start frame.end then framed_by_mode frame.mode order frame else Err FrameBounds

-- ---- windows that copy others

-- the order of a window that copies another: only one of the two may have an order
abbrev pub order_copied : List BoundKey → List BoundKey → Meant (List BoundKey)
order_copied base [] = Ok base
order_copied [] (key ∷ keys) = Ok (key ∷ keys)
order_copied (other ∷ others) (key ∷ keys) = Err WindowCopy

-- a window that copies another takes its partition and order and has no PARTITION BY, and the other has no frame clause
abbrev pub copied : Option BoundWindow → List RowExpression → List BoundKey → Meant (List RowExpression × List BoundKey)
copied None partition order = Ok (partition, order)
copied (Some base) partition order = if base.framed || not (is_empty partition) then Err WindowCopy else order_copied base.order order >>= λ keys. Ok (base.partition, keys)

-- the window from the one that it copies, its own partition and order, and its frame
abbrev pub window_meant : Option BoundWindow → List RowExpression → List BoundKey → Option WrittenFrame → Meant BoundWindow
window_meant base partition order written = do
  frame ← frame_meant written
  lists ← copied base partition order
  checked ← frame_over lists.1 frame
  Ok (record { partition = lists.0; order = lists.1; frame = checked; framed = is_some written })

-- ---- the windows of a WINDOW clause

pub record NamedBoundWindow : Type 0 where
  pub name : List ℕ
  pub window : BoundWindow

abbrev pub known_of : KnownWindow → NamedBoundWindow
known_of w = record { name = w.name; window = window_of w.window }

-- the window of that name
abbrev pub window_named : List NamedBoundWindow → List ℕ → Meant BoundWindow
window_named [] name = Err UnknownWindow
window_named (known ∷ windows) name = if bytes_eq known.name name then Ok known.window else window_named windows name

-- the window that the name before a window's own clauses stands for
abbrev pub base_named : List NamedBoundWindow → Option (List ℕ) → Meant (Option BoundWindow)
base_named windows None = Ok None
base_named windows (Some name) = window_named windows name >>= λ w. Ok (Some w)
