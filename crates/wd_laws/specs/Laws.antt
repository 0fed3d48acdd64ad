-- Laws over the definitions.
use Rattle.std.specs.Prelude.{◌≡◌, ℕ, pos, ◌+◌, ◌/◌, ◌%◌, ◌<◌, ◌≤◌, Bool, true, false, not, List, [], ◌++◌, map, filter, length, take, drop, count_by, nat_eq, nat_lt, slice_index_or, if◌then◌else◌, Option, Some, Result, Ok, ⊤}
use Rattle.std.specs.List.{AllByRecursion, list_any, sum_by}
use Rattle.std.specs.Ordering.{is_gt, is_lt}
use Rattle.wd_value.specs.Bags.{SameBag, EachOnce, positions, times}
use Rattle.wd_value.specs.Order.{compare_ascending}
use Rattle.wd_value.specs.Rows.{Row, Instance, same_row, column_of, columns_of, row_at, rows_at, table_at}
use Rattle.wd_value.specs.declared.value.Fault.{Fault}
use Rattle.wd_value.specs.declared.value.Value.{Value}
use Rattle.wd_value.specs.declared.value.Value.TheVariants.{Int, Null}
use Rattle.wd_schema.specs.Meets.{Meets}
use Rattle.wd_schema.specs.Tables.{TableRule}
use Rattle.wd_plan.specs.declared.expression.ValueKind.{ValueKind}
use Rattle.wd_plan.specs.declared.function.Aggregate.{Aggregate as AggregateFunction}
use Rattle.wd_plan.specs.declared.function.FrameFunction.TheVariants.{Aggregate}
use Rattle.wd_plan.specs.declared.function.Function.{Function}
use Rattle.wd_plan.specs.declared.function.Function.TheVariants.{OfFrame, Ranking as Ranked}
use Rattle.wd_plan.specs.declared.function.Ranking.TheVariants.{Ntile, RowNumber}
use Rattle.wd_plan.specs.declared.window.Bound.TheVariants.{UnboundedFollowing, UnboundedPreceding}
use Rattle.wd_plan.specs.declared.window.Exclusion.TheVariants.{NoOthers}
use Rattle.wd_plan.specs.declared.window.Frame.{Frame}
use Rattle.wd_plan.specs.declared.window.FrameMode.TheVariants.{Rows}
use Rattle.wd_plan.specs.Calls.{aggregate_value, call_value, greatest, least, value_at}
use Rattle.wd_plan.specs.Choices.{AreLawful, AreOrderings, AtRows, IsValidChoice}
use Rattle.wd_plan.specs.Expressions.{Expression, is_null}
use Rattle.wd_plan.specs.Facts.{DeterminesAll, HasWidth}
use Rattle.wd_plan.specs.Faults.{all_ok, and_then}
use Rattle.wd_plan.specs.Fits.{AreBelow, Kinds, fits, is_of_kind, kinds_of, width}
use Rattle.wd_plan.specs.Frames.{frame_of, in_frame}
use Rattle.wd_plan.specs.Settled.{IsByRow, IsSettledCall, IsSettledLimit, IsSettledPlan}
use Rattle.wd_plan.specs.Outcomes.{RowsOrFault, Agree, outcome, filter_outcome, map_outcome, join_outcome, pairs, distinct, window_outcome, extended, limited_rows, group_outcome, groups, mask, rows_of_group, set_rows, shown}
use Rattle.wd_plan.specs.Partitions.{GroupsRise, members, partition_of, group_of}
use Rattle.wd_plan.specs.Plans.{ClassRule, GroupCall, OfRows, Grouping, GroupRule, WindowRule, LimitRule, PlanTree, Scan, Join, Over, NamesClasses, ordering_count, own_orderings}
use Rattle.wd_plan.specs.Sorting.{IsOrdering, class_columns, limit_class}

-- agreeing is reflexive, symmetric and transitive
pub record AgreeingIsAnEquivalence : Type 0 where
  pub itself : (a : RowsOrFault) → Agree a a
  pub back : (a b : RowsOrFault) → Agree a b → Agree b a
  pub on : (a b c : RowsOrFault) → Agree a b → Agree b c → Agree a c

-- The local calls law: the value or fault of a call that goes by the row is a function of the row's columns and of the rows of
-- the input, in any order and under any lawful orderings.
abbrev pub ValuesGoByRows : Type 0
ValuesGoByRows = (class : ClassRule) (frame : Frame) (function : Function) (rows others : List Row) (o1 o2 : List ℕ) (p q : ℕ)
    → IsByRow class frame function rows → SameBag same_row rows others → IsOrdering class rows o1 → IsOrdering class others o2
    → p < length rows → q < length others → row_at rows p ≡ row_at others q
    → value_at class frame function rows o1 p ≡ value_at class frame function others o2 q

-- the exchange law: two orderings of a class whose columns determine every column put the same rows at each place of each partition
abbrev pub SameRowsAtPlaces : Type 0
SameRowsAtPlaces = (class : ClassRule) (width : ℕ) (rows : List Row) (o1 o2 : List ℕ) (p : ℕ)
    → HasWidth width rows → DeterminesAll rows width (class_columns class) → IsOrdering class rows o1 → IsOrdering class rows o2
    → partition_of class rows o1 p ≡ partition_of class rows o2 p

-- the position at a place of a rearrangement; past its end, one that names no row
abbrev pub renamed : List Row → List ℕ → ℕ → ℕ
renamed rows ps q = slice_index_or ps q (length rows)

-- rows rearranged: the rows at these positions, each position once
pub record IsRearranged (rows others : List Row) (ps : List ℕ) : Type 0 where
  pub once : EachOnce (length rows) ps
  pub shown : rows_at rows ps ≡ others

-- two orderings that differ by a renaming that keeps every column: it puts each row where an equal one was, and takes each partition of
-- the first ordering to that of the second
pub record DifferByRenaming (class : ClassRule) (rows : List Row) (o1 o2 : List ℕ) (ps : List ℕ) : Type 0 where
  pub rearranged : IsRearranged rows rows ps
  pub partition : (p : ℕ) → p < length rows → members class rows o2 p ≡ map (renamed rows ps) (members class rows o1 p)

-- the exchange law as a renaming: two orderings of a class whose columns determine every column differ by a renaming
abbrev pub ExchangeRenames : Type 0
ExchangeRenames = (class : ClassRule) (width : ℕ) (rows : List Row) (o1 o2 : List ℕ)
    → HasWidth width rows → DeterminesAll rows width (class_columns class) → IsOrdering class rows o1 → IsOrdering class rows o2
    → (ps : List ℕ) × DifferByRenaming class rows o1 o2 ps

-- a row with the results of calls of a class: their values, or their faults
abbrev pub with_results : ClassRule → List (Frame × Function) → List Row → List ℕ → ℕ → Row × List (Result Value Fault)
with_results class calls rows ordering r = (row_at rows r, map (λ call. value_at class call.0 call.1 rows ordering r) calls)

-- The exchange law's other half: under two orderings of a class whose columns determine every column, each row with its results appears
-- equally often, faults included: any test finds as many under one as under the other.
abbrev pub SameResults : Type 0
SameResults = (class : ClassRule) (calls : List (Frame × Function)) (width : ℕ) (rows : List Row) (o1 o2 : List ℕ) (test : Row × List (Result Value Fault) → Bool)
    → HasWidth width rows → DeterminesAll rows width (class_columns class) → IsOrdering class rows o1 → IsOrdering class rows o2
    → let all = positions (length rows) in
    count_by test (map (with_results class calls rows o1) all) ≡ count_by test (map (with_results class calls rows o2) all)

-- a Window whose calls are settled, at most one class of them by exchange, has one outcome over rearranged rows
abbrev pub WindowHasOne : Type 0
WindowHasOne = (w : WindowRule) (exchange width : ℕ) (rows others : List Row) (os1 os2 : List (List ℕ))
    → SameBag same_row rows others → AreOrderings w.classes rows os1 → AreOrderings w.classes others os2 → HasWidth width rows → NamesClasses w
    → AllByRecursion (IsSettledCall w exchange width rows) w.calls → Agree (window_outcome w rows os1) (window_outcome w others os2)

-- the limit law: a settled limit cuts the same rows under every ordering
abbrev pub LimitHasOne : Type 0
LimitHasOne = (limit : LimitRule) (width : ℕ) (rows others : List Row) (o1 o2 : List ℕ)
    → SameBag same_row rows others → IsOrdering (limit_class limit) rows o1 → IsOrdering (limit_class limit) others o2
    → HasWidth width rows → IsSettledLimit limit width rows → SameBag same_row (limited_rows limit (rows_at rows o1)) (limited_rows limit (rows_at others o2))

-- the tables of one instance are rearrangements of the other's
abbrev pub SameTables : Instance → Instance → Type 0
SameTables instance other = (table : ℕ) → SameBag same_row (table_at instance table) (table_at other table)

-- The composition law: a plan that is settled under one valid choice has outcomes that agree under every valid choice, over
-- the same tables in any row order, faults included.
abbrev pub PlanHasOne : Type 0
PlanHasOne = (plan : PlanTree) (instance other : Instance) (c1 c2 : List (List ℕ))
    → SameTables instance other → IsValidChoice plan instance c1 → IsValidChoice plan other c2 → IsSettledPlan plan instance c1
    → Agree (outcome plan instance c1) (outcome plan other c2)

-- over rearranged rows a Window gives the rearranged rows of the renamed orderings, which are lawful too
pub record Commutes (w : WindowRule) (rows : List Row) (ps : List ℕ) (os : List (List ℕ)) : Type 0 where
  pub valid : AreOrderings w.classes rows (map (map (renamed rows ps)) os)
  pub same_rows : window_outcome w (rows_at rows ps) os ≡ all_ok (map (extended w rows (map (map (renamed rows ps)) os)) ps)

-- the renaming law of a Window
abbrev pub WindowCommutes : Type 0
WindowCommutes = (w : WindowRule) (rows : List Row) (ps : List ℕ) (os : List (List ℕ)) → EachOnce (length rows) ps → AreOrderings w.classes (rows_at rows ps) os → Commutes w rows ps os

-- ROW_NUMBER over the members of a partition, in their ordering, gives 1 up to the number of members
abbrev pub RowNumbersCount : Type 0
RowNumbersCount = (class : ClassRule) (frame : Frame) (rows : List Row) (ordering : List ℕ) (p : ℕ)
    → IsOrdering class rows ordering
    → let part = members class rows ordering p in
    map (value_at class frame (Ranked RowNumber) rows ordering) part ≡ map (λ i. Ok (Int (pos (i + 1)))) (positions (length part))

-- along a partition list under a lawful ordering peer group numbers begin at 0 and rise by at most one
abbrev pub PeerGroupsRise : Type 0
PeerGroupsRise = (class : ClassRule) (rows : List Row) (ordering : List ℕ) (p : ℕ) → IsOrdering class rows ordering → GroupsRise class (partition_of class rows ordering p)

-- every instance has a valid choice for each plan
abbrev pub HasValidChoice : Type 0
HasValidChoice = (plan : PlanTree) (instance : Instance) → (choice : List (List ℕ)) × IsValidChoice plan instance choice

-- rearranged rows, on both sides of a Join, have rearranged outcomes under a Filter, a Map, a Group, a Join and a Distinct,
-- faults included
pub record StepsCommute : Type 0 where
  pub filter : (condition : Expression) (rows others : List Row) → SameBag same_row rows others → Agree (filter_outcome condition rows) (filter_outcome condition others)
  pub map : (outputs : List Expression) (rows others : List Row) → SameBag same_row rows others → Agree (map_outcome outputs rows) (map_outcome outputs others)
  pub group : (rule : GroupRule) (rows others : List Row) → SameBag same_row rows others → Agree (group_outcome rule rows) (group_outcome rule others)
  pub join : (condition : Option Expression) (left others right more : List Row) → SameBag same_row left others → SameBag same_row right more
      → Agree (join_outcome condition (pairs left right)) (join_outcome condition (pairs others more))
  pub distinct : (rows others : List Row) → SameBag same_row rows others → SameBag same_row (distinct rows) (distinct others)

-- the groups of a set are those of its columns: the set shows the same of two rows exactly where they are the same on these columns
abbrev pub GroupsGoByColumns : Type 0
GroupsGoByColumns = (columns : ℕ) (set : List ℕ) (a b : Row) → AreBelow columns set → same_row (shown columns set a) (shown columns set b) ≡ same_row (columns_of set a) (columns_of set b)

-- each row is of one group of a set, and each group of a set with columns has a row
pub record AreGroups (columns : ℕ) (set : List ℕ) (rows : List Row) : Type 0 where
  pub once : (p : ℕ) → p < length rows → times same_row (shown columns set (row_at rows p)) (groups columns set rows) ≡ 1
  pub no_other : (group : Row) → 0 < times same_row group (groups columns set rows) → 0 < length set → (p : ℕ) × (p < length rows) × (group ≡ shown columns set (row_at rows p))

abbrev pub GroupsPartRows : Type 0
GroupsPartRows = (columns : ℕ) (set : List ℕ) (rows : List Row) → AreGroups columns set rows

-- the frame of all rows of the partition
abbrev pub whole_frame : Frame
whole_frame = record { mode = Rows; start = UnboundedPreceding; end = UnboundedFollowing; exclusion = NoOthers }

-- an aggregate of a row's group is the value at the row of a window call of the aggregate, partitioned by the set's columns, over the
-- whole partition, under any ordering
abbrev pub GroupsAreWindows : Type 0
GroupsAreWindows = (columns : ℕ) (set : List ℕ) (aggregate : AggregateFunction) (rows : List Row) (ordering : List ℕ) (r : ℕ)
    → AreBelow columns set → EachOnce (length rows) ordering
    → aggregate_value aggregate (rows_of_group columns set rows (shown columns set (row_at rows r))) ≡ value_at (record { partition = set; order = [] }) whole_frame (OfFrame (Aggregate aggregate)) rows ordering r

-- whether no earlier row is the same as the one at a position
abbrev pub is_first : List Row → ℕ → Bool
is_first rows p = not (list_any (λ q. same_row q (row_at rows p)) (take p rows))

-- the value of a group's call at a row of the group: an aggregate as a window call over the whole partition by the set's columns, or
-- the mask of GROUPING
abbrev pub value_beside : List ℕ → List Row → List ℕ → ℕ → GroupCall → Result Value Fault
value_beside set rows ordering p (OfRows aggregate) = value_at (record { partition = set; order = [] }) whole_frame (OfFrame (Aggregate aggregate)) rows ordering p
value_beside set rows ordering p (Grouping columns) = Ok (Int (pos (mask set columns)))

-- what the row at a position shows of the grouping columns, and these values
abbrev pub row_beside : GroupRule → List ℕ → List Row → List ℕ → ℕ → Result Row Fault
row_beside rule set rows ordering p = and_then (all_ok (map (value_beside set rows ordering p) rule.calls)) (λ values. Ok (shown rule.columns set (row_at rows p) ++ values))

-- A set with columns gives the rows of which it shows what it shows of no earlier one, with the values of a window that is partitioned
-- by its columns: so groups are evaluated as windows are.
abbrev pub SetsAreWindows : Type 0
SetsAreWindows = (rule : GroupRule) (set : List ℕ) (rows : List Row) (ordering : List ℕ)
    → 0 < length set → AreBelow rule.columns set → EachOnce (length rows) ordering
    → set_rows rule rows set ≡ map (row_beside rule set rows ordering) (filter (is_first (map (shown rule.columns set) rows)) (positions (length rows)))

-- over rearranged rows a Limit keeps the very list that it keeps under the renamed ordering, which is lawful too
pub record CutCommutes (limit : LimitRule) (rows : List Row) (ps ordering : List ℕ) : Type 0 where
  pub valid : IsOrdering (limit_class limit) rows (map (renamed rows ps) ordering)
  pub same_rows : limited_rows limit (rows_at (rows_at rows ps) ordering) ≡ limited_rows limit (rows_at rows (map (renamed rows ps) ordering))

-- the renaming law of a Limit
abbrev pub LimitCommutes : Type 0
LimitCommutes = (limit : LimitRule) (rows : List Row) (ps ordering : List ℕ)
    → EachOnce (length rows) ps → IsOrdering (limit_class limit) (rows_at rows ps) ordering → CutCommutes limit rows ps ordering

-- orderings of a step's rearranged rows, with each position renamed to where its row was; without rows nothing is renamed
abbrev pub AreRenamedAt : RowsOrFault → RowsOrFault → List (List ℕ) → List (List ℕ) → Type 0
AreRenamedAt (Ok rows) (Ok others) orderings own = (ps : List ℕ) × IsRearranged rows others ps × (own ≡ map (map (renamed rows ps)) orderings)
AreRenamedAt rows others orderings own = own ≡ orderings

-- a choice over rearranged tables with its positions renamed: each ordering by the way its step's input rows are rearranged
abbrev pub AreRenamed : PlanTree → Instance → Instance → List (List ℕ) → List (List ℕ) → Type 0
AreRenamed (Scan table columns) instance other choice own = ⊤
AreRenamed (Join condition left right) instance other choice own =
    AreRenamed left instance other choice own × AreRenamed right instance other (drop (ordering_count left) choice) (drop (ordering_count left) own)
AreRenamed (Over step input) instance other choice own =
    AreRenamed input instance other choice own
    × AreRenamedAt (outcome input instance own) (outcome input other choice) (own_orderings step input choice) (own_orderings step input own)

-- a renamed choice with no ordering left over
pub record IsRenamed (plan : PlanTree) (instance other : Instance) (choice own : List (List ℕ)) : Type 0 where
  pub number : length own ≡ ordering_count plan
  pub each : AreRenamed plan instance other choice own

-- The renaming law of a plan: each valid choice over rearranged tables can be renamed, and the renamed choice is valid and gives the
-- rearranged outcome, faults included.
pub record PlanCommutes : Type 0 where
  pub renames : (plan : PlanTree) (instance other : Instance) (choice : List (List ℕ)) → SameTables instance other → IsValidChoice plan other choice
      → (own : List (List ℕ)) × IsRenamed plan instance other choice own
  pub valid : (plan : PlanTree) (instance other : Instance) (choice own : List (List ℕ)) → SameTables instance other → IsValidChoice plan other choice
      → IsRenamed plan instance other choice own → IsValidChoice plan instance own
  pub same : (plan : PlanTree) (instance other : Instance) (choice own : List (List ℕ)) → SameTables instance other → IsValidChoice plan other choice
      → IsRenamed plan instance other choice own → Agree (outcome plan instance own) (outcome plan other choice)

-- whether the frame of the member at place m of a partition list takes the one at place n
abbrev pub frame_takes : ClassRule → Frame → List Row → ℕ → ℕ → Bool
frame_takes class frame partition m n = in_frame class frame (group_of class partition) m (row_at partition m) n (row_at partition n)

-- The frame of the member at place m of a partition list has no gap: it takes each member between two that it takes, up to UNBOUNDED
-- FOLLOWING each one after, from UNBOUNDED PRECEDING each one before, and so its rows are a contiguous range of the list.
pub record IsContiguous (class : ClassRule) (frame : Frame) (partition : List Row) (m : ℕ) : Type 0 where
  pub between : (i j k : ℕ) → i < j → j < k → k < length partition
      → frame_takes class frame partition m i ≡ true → frame_takes class frame partition m k ≡ true → frame_takes class frame partition m j ≡ true
  pub following : frame.end ≡ UnboundedFollowing → (i j : ℕ) → i < j → j < length partition
      → frame_takes class frame partition m i ≡ true → frame_takes class frame partition m j ≡ true
  pub before : frame.start ≡ UnboundedPreceding → (i j : ℕ) → i < j → j < length partition
      → frame_takes class frame partition m j ≡ true → frame_takes class frame partition m i ≡ true
  pub range : (start : ℕ) × (count : ℕ) × (frame_of class frame partition m ≡ take count (drop start partition))

-- along a partition list under a lawful ordering, a frame without exclusion is contiguous
abbrev pub FramesAreContiguous : Type 0
FramesAreContiguous = (class : ClassRule) (frame : Frame) (rows : List Row) (ordering : List ℕ) (p m : ℕ)
    → IsOrdering class rows ordering → frame.exclusion ≡ NoOthers → m < length (partition_of class rows ordering p)
    → IsContiguous class frame (partition_of class rows ordering p) m

-- the size of the bucket after g others: how many of the `members` places have its number
abbrev pub bucket_size : (ℕ → ℕ) → ℕ → ℕ → ℕ
bucket_size number members g = count_by (λ place. nat_eq (number place) (g + 1)) (positions members)

-- The given number of members are dealt to n buckets, numbered from 1, as evenly as can be: the sizes differ by at most one, the larger
-- ones come first, and together they are all members. Where there are fewer members than buckets the last ones are empty.
pub record BucketsAreEven (n members : ℕ) (number : ℕ → ℕ) : Type 0 where
  pub sizes : (g : ℕ) → g < n → bucket_size number members g ≡ members / n + (if nat_lt g (members % n) then 1 else 0)
  pub larger_first : (g h : ℕ) → g < h → h < n → bucket_size number members h ≤ bucket_size number members g
  pub close : (g h : ℕ) → g < n → h < n → bucket_size number members g ≤ bucket_size number members h + 1
  pub all : sum_by (bucket_size number members) (positions n) ≡ members
  pub none_left : (g : ℕ) → members ≤ g → bucket_size number members g ≡ 0
  pub in_order : (i j : ℕ) → i ≤ j → j < members → number i ≤ number j

-- NTILE(n) gives each place of a partition list its bucket's number
abbrev pub NtileIsEven : Type 0
NtileIsEven = (class : ClassRule) (frame : Frame) (partition : List Row) (n : ℕ) → 0 < n
    → (number : ℕ → ℕ) × ((i : ℕ) → call_value class frame (Ranked (Ntile n)) partition i ≡ Ok (Int (pos (number i)))) × BucketsAreEven n (length partition) number

-- v is one of the values, no value that is not NULL comes before it, and it is NULL only where all values are
pub record IsFirstOf (comes_before : Value → Value → Bool) (values : List Value) (v : Value) : Type 0 where
  pub member : 0 < length values → (i : ℕ) × (i < length values) × (slice_index_or values i Null ≡ v)
  pub over_nothing : length values ≡ 0 → v ≡ Null
  pub first : AllByRecursion (λ w. is_null w ≡ false → (is_null v ≡ false) × (comes_before w v ≡ false)) values

-- MIN's value is the least and MAX's the greatest
pub record ExtremesAreFirst : Type 0 where
  pub of_least : (values : List Value) → IsFirstOf (λ w v. is_lt (compare_ascending w v)) values (least values)
  pub of_greatest : (values : List Value) → IsFirstOf (λ w v. is_gt (compare_ascending w v)) values (greatest values)

-- The rows of a node have its width: for a plan that fits, over an instance that meets the schema, under lawful orderings.
abbrev pub HasWidths : Type 0
HasWidths = (tables : List TableRule) (plan : PlanTree) (instance : Instance) (choice : List (List ℕ))
    → fits tables plan ≡ true → Meets tables instance → AreLawful plan instance choice → AtRows (outcome plan instance choice) (HasWidth (width plan)) ⊤

-- each value of a row is of its column's kind, where the column has one
abbrev pub IsOfKinds : Kinds → Row → Type 0
IsOfKinds kinds row = (c : ℕ) (kind : ValueKind) → kinds c ≡ Some kind → is_of_kind kind (column_of row c) ≡ true

-- the values of the rows of a node are of their columns' kinds
abbrev pub HasKinds : Type 0
HasKinds = (tables : List TableRule) (plan : PlanTree) (instance : Instance) (choice : List (List ℕ))
    → fits tables plan ≡ true → Meets tables instance → AreLawful plan instance choice → AtRows (outcome plan instance choice) (AllByRecursion (IsOfKinds (kinds_of tables plan))) ⊤
