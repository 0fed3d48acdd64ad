-- The values of window calls over rows with NULL in the columns that are not read.
use Rattle.std.proofs.Common.{◌≡◌, ℕ, ◌+◌, ◌-◌, pos, ◌-ℤ◌, Bool, true, cond, not, ◌&&◌, List, [], ◌∷◌, map, filter, count_by, refl, sym, ◌∙◌, ap, is_lt, nat_eq, nat_lt, nat_le, option_to_list, Ok}
use Rattle.std.specs.List.{AllByRecursion, enumerate_from}
use Rattle.std.specs.Ordering.{ordering_then}
use Rattle.std.proofs.lemmas.List.{length-map}
use Rattle.std.proofs.lemmas.List.Folds.{fold-map}
use Rattle.wd_value.specs.declared.order.SortColumn.{SortColumn}
use Rattle.wd_value.specs.declared.value.Value.{Value}
use Rattle.wd_value.specs.declared.value.Value.TheVariants.{Int}
use Rattle.wd_value.specs.Keys.{compare_keys, key_columns}
use Rattle.wd_value.specs.Order.{compare}
use Rattle.wd_value.specs.Rows.{Row, column_of, columns_of, row_at, rows_at, same_row}
use Rattle.wd_plan.proofs.Parts.{map_filter}
use Rattle.wd_plan.specs.Calls.{aggregate_value, bucket, call_value, column_values, frame_value, greatest, least, ranking_value, sum_of, taken, value_at, value_away}
use Rattle.wd_plan.specs.Expressions.{is_null}
use Rattle.wd_plan.specs.Frames.{Distances, bound_asks, ends_at, frame_of, in_frame, is_kept, key_distance, starts_at, value_distance}
use Rattle.wd_plan.specs.Functions.{argument_of}
use Rattle.wd_plan.specs.Partitions.{different, group_of, members, partition_of, place_in}
use Rattle.wd_plan.specs.Plans.{ClassRule}
use Rattle.wd_plan.specs.Sorting.{order_columns, same_partition}
use Rattle.wd_plan.specs.declared.function.Aggregate.{Aggregate as AggregateFunction}
use Rattle.wd_plan.specs.declared.function.Aggregate.TheVariants.{CountRows, Count, Sum, Min, Max}
use Rattle.wd_plan.specs.declared.function.Direction.TheVariants.{Lag, Lead}
use Rattle.wd_plan.specs.declared.function.Direction.{Direction}
use Rattle.wd_plan.specs.declared.function.FrameFunction.{FrameFunction}
use Rattle.wd_plan.specs.declared.function.FrameFunction.TheVariants.{ValueAt, Aggregate}
use Rattle.wd_plan.specs.declared.function.Function.{Function}
use Rattle.wd_plan.specs.declared.function.Function.TheVariants.{Ranking as Ranked, Shift as Shifted, OfFrame}
use Rattle.wd_plan.specs.declared.function.Ranking.{Ranking}
use Rattle.wd_plan.specs.declared.function.Ranking.TheVariants.{RowNumber, Rank, DenseRank, Ntile}
use Rattle.wd_plan.specs.declared.window.Frame.{Frame}
use Rattle.wd_simpler.proofs.Masks.{mask, mask_read, row_masked, rows_masked}
use Rattle.wd_simpler.specs.Simpler.{Read}

-- ---- lists

pub filter_map : {X Y : Type 0} (f : X → Y) (t : Y → Bool) (u : X → Bool) → ((x : X) → t (f x) ≡ u x) → (xs : List X) → filter t (map f xs) ≡ map f (filter u xs)
filter_map f t u e xs = sym (map_filter f t xs) ∙ (λ i. map f (filter (λ x. e x i) xs))

pub map_of_map : {X Y Z : Type 0} (f : X → Y) (g : Y → Z) (h : X → Z) → ((x : X) → g (f x) ≡ h x) → (xs : List X) → map g (map f xs) ≡ map h xs
map_of_map f g h e [] = refl
map_of_map f g h e (x ∷ xs) = λ i. e x i ∷ map_of_map f g h e xs i

count_of_map : {X Y : Type 0} (f : X → Y) (t : Y → Bool) (u : X → Bool) → ((x : X) → t (f x) ≡ u x) → (xs : List X) → count_by t (map f xs) ≡ count_by u xs
count_of_map f t u e xs = fold-map (λ a y. a + cond (t y) 1 0) f 0 xs ∙ (λ i. count_by (λ x. e x i) xs)

enumerate_of_map : {X Y : Type 0} (f : X → Y) (n : ℕ) (xs : List X) → enumerate_from n (map f xs) ≡ map (λ m. (m.0, f m.1)) (enumerate_from n xs)
enumerate_of_map f n [] = refl
enumerate_of_map f n (x ∷ xs) = ap (λ l. (n, f x) ∷ l) (enumerate_of_map f (n + 1) xs)

-- ---- all that a call reads

module _ (read : Read) where
  -- these columns are read
  abbrev pub AreRead : List ℕ → Type 0
  AreRead columns = AllByRecursion (λ c. read c ≡ true) columns

  abbrev pub m : Row → Row
  m = mask read

  pub columns_read : (columns : List ℕ) → AreRead columns → (row : Row) → columns_of columns (m row) ≡ columns_of columns row
  columns_read [] h row = refl
  columns_read (c ∷ columns) h row = λ i. mask_read read row c h.0 i ∷ columns_read columns h.1 row i

  pub keys_read : (keys : List SortColumn) → AreRead (key_columns keys) → (a b : Row) → compare_keys keys (m a) (m b) ≡ compare_keys keys a b
  keys_read [] h a b = refl
  keys_read (item ∷ keys) h a b = λ i. ordering_then (compare item.key (mask_read read a item.column h.0 i) (mask_read read b item.column h.0 i)) (keys_read keys h.1 a b i)

  distance_read : (keys : List SortColumn) → AreRead (key_columns keys) → (a b : Row) → key_distance keys (m a) (m b) ≡ key_distance keys a b
  distance_read [] h a b = refl
  distance_read (item ∷ []) h a b = λ i. value_distance item.key.desc (mask_read read a item.column h.0 i) (mask_read read b item.column h.0 i)
  distance_read (item ∷ other ∷ keys) h a b = refl

  pub row_read : (rows : List Row) (p : ℕ) → row_at (map m rows) p ≡ m (row_at rows p)
  row_read = row_masked m refl

  pub rows_read : (rows : List Row) (ps : List ℕ) → rows_at (map m rows) ps ≡ map m (rows_at rows ps)
  rows_read = rows_masked m refl

  values_read : (c : ℕ) → read c ≡ true → (rows : List Row) → column_values c (map m rows) ≡ column_values c rows
  values_read c h rows = map_of_map m (λ r. column_of r c) (λ r. column_of r c) (λ r. mask_read read r c h) rows

  pub aggregate_read : (a : AggregateFunction) → AreRead (option_to_list (argument_of (OfFrame (Aggregate a)))) → (rows : List Row) → aggregate_value a (map m rows) ≡ aggregate_value a rows
  aggregate_read CountRows h rows = ap (λ n. Ok (Int (pos n))) (length-map rows m)
  aggregate_read (Count c) h rows = ap (λ n. Ok (Int (pos n))) (count_of_map m (λ r. not (is_null (column_of r c))) (λ r. not (is_null (column_of r c))) (λ r. ap (λ v. not (is_null v)) (mask_read read r c h.0)) rows)
  aggregate_read (Sum c) h rows = ap sum_of (values_read c h.0 rows)
  aggregate_read (Min c) h rows = ap (λ vs. Ok (least vs)) (values_read c h.0 rows)
  aggregate_read (Max c) h rows = ap (λ vs. Ok (greatest vs)) (values_read c h.0 rows)

  module _ (class : ClassRule) (keys : AreRead (order_columns class)) where
    group_read : (part : List Row) (r : Row) → group_of class (map m part) (m r) ≡ group_of class part r
    group_read part r =
        ap different (
        ap (map (columns_of (key_columns class.order))) (filter_map m (λ q. is_lt (compare_keys class.order q (m r))) (λ q. is_lt (compare_keys class.order q r)) (λ q. ap is_lt (keys_read class.order keys q r)) part)
        ∙ map_of_map m (columns_of (key_columns class.order)) (columns_of (key_columns class.order)) (columns_read (key_columns class.order) keys) (filter (λ q. is_lt (compare_keys class.order q r)) part))

    test_read : (frame : Frame) (part : List Row) (i : ℕ) (a : Row) (j : ℕ) (b : Row) → in_frame class frame (group_of class (map m part)) i (m a) j (m b) ≡ in_frame class frame (group_of class part) i a j b
    test_read frame part i a j b = λ t.
        let d : Distances = record { places = pos j -ℤ pos i; groups = pos (group_read part b t) -ℤ pos (group_read part a t); keys = distance_read class.order keys a b t } in
        (bound_asks frame.mode starts_at frame.start d && bound_asks frame.mode ends_at frame.end d) && is_kept frame.exclusion (nat_eq i j) (nat_eq (group_read part a t) (group_read part b t))

    abbrev numbered : ℕ × Row → ℕ × Row
    numbered x = (x.0, m x.1)

    frame_read : (frame : Frame) (part : List Row) (i : ℕ) → frame_of class frame (map m part) i ≡ map m (frame_of class frame part i)
    frame_read frame part i =
        let old = λ (x : ℕ × Row). in_frame class frame (group_of class part) i (row_at part i) x.0 x.1 in
        let new = λ (x : ℕ × Row). in_frame class frame (group_of class (map m part)) i (row_at (map m part) i) x.0 x.1 in
        let picked : filter new (enumerate_from 0 (map m part)) ≡ map numbered (filter old (enumerate_from 0 part)) =
        ap (filter new) (enumerate_of_map m 0 part)
        ∙ filter_map numbered new old (λ x. ap (λ r. in_frame class frame (group_of class (map m part)) i r x.0 (m x.1)) (row_read part i) ∙ test_read frame part i (row_at part i) x.0 x.1) (enumerate_from 0 part) in
        ap (map (λ (x : ℕ × Row). x.1)) picked
        ∙ map_of_map numbered (λ (x : ℕ × Row). x.1) (λ (x : ℕ × Row). m x.1) (λ x. refl) (filter old (enumerate_from 0 part))
        ∙ sym (map_of_map (λ (x : ℕ × Row). x.1) m (λ (x : ℕ × Row). m x.1) (λ x. refl) (filter old (enumerate_from 0 part)))

    ranking_read : (r : Ranking) (part : List Row) (i : ℕ) → ranking_value class r (map m part) i ≡ ranking_value class r part i
    ranking_read RowNumber part i = refl
    ranking_read Rank part i =
        let own : group_of class (map m part) (row_at (map m part) i) ≡ group_of class part (row_at part i) = ap (group_of class (map m part)) (row_read part i) ∙ group_read part (row_at part i) in
        ap (λ n. 1 + n) (count_of_map m (λ q. nat_lt (group_of class (map m part) q) (group_of class (map m part) (row_at (map m part) i))) (λ q. nat_lt (group_of class part q) (group_of class part (row_at part i))) (λ q. λ t. nat_lt (group_read part q t) (own t)) part)
    ranking_read DenseRank part i = ap (λ n. n + 1) (ap (group_of class (map m part)) (row_read part i) ∙ group_read part (row_at part i))
    ranking_read (Ntile n) part i = ap (λ l. bucket n l i) (length-map part m)

  away_read : (direction : Direction) (c k : ℕ) (default : Value) → read c ≡ true → (part : List Row) (i : ℕ) → value_away direction c k default (map m part) i ≡ value_away direction c k default part i
  away_read Lag c k default h part i = ap (λ v. cond (nat_le k i) v default) (ap (λ r. column_of r c) (row_read part (i - k)) ∙ mask_read read (row_at part (i - k)) c h)
  away_read Lead c k default h part i = λ t. cond (nat_lt (i + k) (length-map part m t)) ((ap (λ r. column_of r c) (row_read part (i + k)) ∙ mask_read read (row_at part (i + k)) c h) t) default

  frame_value_read : (f : FrameFunction) → AreRead (option_to_list (argument_of (OfFrame f))) → (rows : List Row) → frame_value f (map m rows) ≡ frame_value f rows
  frame_value_read (ValueAt row c) h rows = ap (λ vs. Ok (taken row vs)) (values_read c h.0 rows)
  frame_value_read (Aggregate a) h rows = aggregate_read a h rows

  module _ (class : ClassRule) (keys : AreRead (order_columns class)) (frame : Frame) where
    call_read : (function : Function) → AreRead (option_to_list (argument_of function)) → (part : List Row) (i : ℕ) → call_value class frame function (map m part) i ≡ call_value class frame function part i
    call_read (Ranked r) h part i = ap (λ n. Ok (Int (pos n))) (ranking_read class keys r part i)
    call_read (Shifted s) h part i = ap (λ v. Ok v) (away_read s.direction s.argument s.offset s.default h.0 part i)
    call_read (OfFrame f) h part i = ap (frame_value f) (frame_read class keys frame part i) ∙ frame_value_read f h (frame_of class frame part i)

  -- ---- partitions

  module _ (class : ClassRule) (partition : AreRead class.partition) where
    pub partition_read : (a b : Row) → same_partition class (m a) (m b) ≡ same_partition class a b
    partition_read a b = λ t. same_row (columns_read class.partition partition a t) (columns_read class.partition partition b t)

    members_read : (rows : List Row) (ordering : List ℕ) (r : ℕ) → members class (map m rows) ordering r ≡ members class rows ordering r
    members_read rows ordering r = λ t. filter (λ q. ((λ u. same_partition class (row_read rows r u) (row_read rows q u)) ∙ partition_read (row_at rows r) (row_at rows q)) t) ordering

    part_read : (rows : List Row) (ordering : List ℕ) (r : ℕ) → partition_of class (map m rows) ordering r ≡ map m (partition_of class rows ordering r)
    part_read rows ordering r = ap (rows_at (map m rows)) (members_read rows ordering r) ∙ rows_read rows (members class rows ordering r)

  -- the value of a call whose class and argument are read
  pub value_read : (class : ClassRule) (frame : Frame) (function : Function) → AreRead class.partition → AreRead (order_columns class) → AreRead (option_to_list (argument_of function)) → (rows : List Row) (ordering : List ℕ) (r : ℕ) → value_at class frame function (map m rows) ordering r ≡ value_at class frame function rows ordering r
  value_read class frame function partition keys argument rows ordering r =
      (λ t. call_value class frame function (part_read class partition rows ordering r t) (place_in (members_read class partition rows ordering r t) r))
      ∙ call_read class keys frame function argument (partition_of class rows ordering r) (place_in (members class rows ordering r) r)
