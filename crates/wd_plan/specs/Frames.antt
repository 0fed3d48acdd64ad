-- The frame of a row: the members of its partition list that pass a test on the two rows (SQL, window frame clause;
-- PG, Window Function Calls).
use Rattle.std.specs.Prelude.{ℕ, ℤ, pos, ◌-ℤ◌, neg_ℤ, int_le, Bool, true, false, not, ◌&&◌, ◌||◌, List, [], ◌∷◌, map, filter, nat_eq, if◌then◌else◌, Option, Some, None}
use Rattle.std.specs.List.{enumerate_from}
use Rattle.wd_value.specs.declared.value.Value.{Value}
use Rattle.wd_value.specs.declared.value.Value.TheVariants.{Int}
use Rattle.wd_value.specs.Rows.{Row, column_of, row_at}
use Rattle.wd_value.specs.declared.order.SortColumn.{SortColumn}
use Rattle.wd_plan.specs.declared.window.Bound.{Bound}
use Rattle.wd_plan.specs.declared.window.Bound.TheVariants.{UnboundedPreceding, Preceding, CurrentRow, Following, UnboundedFollowing}
use Rattle.wd_plan.specs.declared.window.Exclusion.{Exclusion}
use Rattle.wd_plan.specs.declared.window.Exclusion.TheVariants as exclude
use Rattle.wd_plan.specs.declared.window.Frame.{Frame}
use Rattle.wd_plan.specs.declared.window.FrameMode.{FrameMode}
use Rattle.wd_plan.specs.declared.window.FrameMode.TheVariants as mode
use Rattle.wd_plan.specs.Plans.{ClassRule}
use Rattle.wd_plan.specs.Partitions.{group_of}

-- whether a start lets in a row at this distance: n PRECEDING does where the distance is at least -n
abbrev pub starts_at : Bound → ℤ → Bool
starts_at UnboundedPreceding d = true
starts_at (Preceding n) d = int_le (neg_ℤ (pos n)) d
starts_at CurrentRow d = int_le (pos 0) d
starts_at (Following n) d = int_le (pos n) d
starts_at UnboundedFollowing d = false

-- whether an end lets in a row at this distance: n PRECEDING does where the distance is at most -n
abbrev pub ends_at : Bound → ℤ → Bool
ends_at UnboundedPreceding d = false
ends_at (Preceding n) d = int_le d (neg_ℤ (pos n))
ends_at CurrentRow d = int_le d (pos 0)
ends_at (Following n) d = int_le d (pos n)
ends_at UnboundedFollowing d = true

-- the distance from one key to another, over unbounded whole numbers and negated under DESC; none where one is no whole number
abbrev pub value_distance : Bool → Value → Value → Option ℤ
value_distance desc (Int a) (Int b) = Some (if desc then a -ℤ b else b -ℤ a)
value_distance desc a b = None

-- the distance of two rows by their one sort key
abbrev pub key_distance : List SortColumn → Row → Row → Option ℤ
key_distance [] r q = None
key_distance (item ∷ []) r q = value_distance item.key.desc (column_of r item.column) (column_of q item.column)
key_distance (item ∷ other ∷ items) r q = None

-- the distances from a row to another one of its partition: in places, in peer groups, and in keys
pub record Distances : Type 0 where
  pub places : ℤ
  pub groups : ℤ
  pub keys : Option ℤ

-- a bound of RANGE with an offset tests the distance of keys; where a key is NULL it tests as CURRENT ROW does (this project's choice)
abbrev pub range_asks : (Bound → ℤ → Bool) → Bound → Option ℤ → ℤ → Bool
range_asks asks (Preceding n) (Some keys) groups = asks (Preceding n) keys
range_asks asks (Preceding n) None groups = asks CurrentRow groups
range_asks asks (Following n) (Some keys) groups = asks (Following n) keys
range_asks asks (Following n) None groups = asks CurrentRow groups
range_asks asks UnboundedPreceding keys groups = asks UnboundedPreceding groups
range_asks asks CurrentRow keys groups = asks CurrentRow groups
range_asks asks UnboundedFollowing keys groups = asks UnboundedFollowing groups

-- ROWS tests places, GROUPS tests peer groups
abbrev pub bound_asks : FrameMode → (Bound → ℤ → Bool) → Bound → Distances → Bool
bound_asks mode.Rows asks bound d = asks bound d.places
bound_asks mode.Groups asks bound d = asks bound d.groups
bound_asks mode.Range asks bound d = range_asks asks bound d.keys d.groups

-- whether the exclusion keeps a member, by whether it is the row itself and whether it is in the row's peer group
abbrev pub is_kept : Exclusion → Bool → Bool → Bool
is_kept exclude.NoOthers self peer = true
is_kept exclude.CurrentRow self peer = not self
is_kept exclude.Group self peer = not peer
is_kept exclude.Ties self peer = self || not peer

-- whether the member q at place j is in the frame of the member r at place i
abbrev pub in_frame : ClassRule → Frame → (Row → ℕ) → ℕ → Row → ℕ → Row → Bool
in_frame class frame groups i r j q =
    let d : Distances = record { places = pos j -ℤ pos i; groups = pos (groups q) -ℤ pos (groups r); keys = key_distance class.order r q } in
    (bound_asks frame.mode starts_at frame.start d && bound_asks frame.mode ends_at frame.end d) && is_kept frame.exclusion (nat_eq i j) (nat_eq (groups r) (groups q))

-- the frame of the member at place i of a partition list: the rows that pass the test, in the list's order
abbrev pub frame_of : ClassRule → Frame → List Row → ℕ → List Row
frame_of class frame partition i = map (λ m. m.1) (filter (λ m. in_frame class frame (group_of class partition) i (row_at partition i) m.0 m.1) (enumerate_from 0 partition))

abbrev pub is_unbounded : Bound → Bool
is_unbounded UnboundedPreceding = true
is_unbounded (Preceding n) = false
is_unbounded CurrentRow = false
is_unbounded (Following n) = false
is_unbounded UnboundedFollowing = true

-- a stable frame: mode RANGE or GROUPS, or ROWS between both unbounded ends, with any exclusion
abbrev pub is_stable : Frame → Bool
is_stable frame = by_mode frame.mode
  where
    by_mode : FrameMode → Bool
    by_mode mode.Range = true
    by_mode mode.Groups = true
    by_mode mode.Rows = is_unbounded frame.start && is_unbounded frame.end
