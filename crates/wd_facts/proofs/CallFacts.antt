-- The facts that the calls of a Window give, at positions of its input.
use Rattle.std.proofs.Common.{◌≡◌, ℕ, suc, ◌+◌, ◌-ℤ◌, ◌<◌, pos, Bool, true, false, not, ◌&&◌, List, [], ◌∷◌, ◌++◌, map, length, filter, count_by, get_or, refl, sym, ◌∙◌, ap, subst, arith, ◌⊎◌, inl, inr, nat_lt, nat_eq, Ok}
use Rattle.std.specs.List.{enumerate_from}
use Rattle.std.proofs.lemmas.List.Sums.{length-filter}
use Rattle.std.proofs.lemmas.List.{length-append}
use Rattle.std.proofs.lemmas.Bool.{lt-ltb, le-ltb, ltb-true, cases_order, and_parts, false≢true}
use Rattle.wd_value.specs.Bags.{EachOnce}
use Rattle.wd_value.specs.declared.value.Value.TheVariants.{Int}
use Rattle.wd_value.specs.declared.order.SortColumn.{SortColumn}
use Rattle.wd_value.specs.Rows.{Row, column_of, columns_of, row_at}
use Rattle.wd_value.proofs.Perms.{Perm-length}
use Rattle.wd_plan.specs.Calls.{aggregate_value, call_value, value_at}
use Rattle.wd_plan.specs.Frames.{Distances, bound_asks, ends_at, frame_of, in_frame, is_kept, is_stable, key_distance, starts_at, value_distance}
use Rattle.wd_plan.specs.Partitions.{group_of, members, partition_of, place_in}
use Rattle.wd_plan.specs.Plans.{ClassRule}
use Rattle.wd_plan.specs.Sorting.{order_columns}
use Rattle.wd_plan.specs.declared.function.Aggregate.{Aggregate as AggregateFunction}
use Rattle.wd_plan.specs.declared.function.FrameFunction.TheVariants.{Aggregate}
use Rattle.wd_plan.specs.declared.function.Function.{Function}
use Rattle.wd_plan.specs.declared.function.Function.TheVariants.{Ranking as Ranked, OfFrame}
use Rattle.wd_plan.specs.declared.function.Ranking.TheVariants.{RowNumber, Rank, DenseRank}
use Rattle.wd_plan.specs.declared.window.Exclusion.{Exclusion}
use Rattle.wd_plan.specs.declared.window.Exclusion.TheVariants as exclude
use Rattle.wd_plan.specs.declared.window.Frame.{Frame}
use Rattle.wd_plan.proofs.Places.{in_part, same_members}
use Rattle.wd_laws.proofs.Frames.{in_stable_frame, stable_test}
use Rattle.wd_plan.proofs.Groups.{Perm-split, passes_some, group_alike, key_from_group}
use Rattle.wd_step_facts.specs.Steps.{goes_by_key, keeps_peers_whole}

-- ---- ROW_NUMBER: partition and value give the row

module _ (class : ClassRule) (frame : Frame) (rows : List Row) (ordering : List ℕ) (once : EachOnce (length rows) ordering) (p q : ℕ) (k : p < length rows) (l : q < length rows) (same : columns_of class.partition (row_at rows p) ≡ columns_of class.partition (row_at rows q)) where
  one_list : members class rows ordering q ≡ members class rows ordering p
  one_list = same_members class rows ordering (row_at rows p) q same

  pub row_number_gives_row : value_at class frame (Ranked RowNumber) rows ordering p ≡ value_at class frame (Ranked RowNumber) rows ordering q → p ≡ q
  row_number_gives_row e =
      let u = in_part class rows ordering p once k in
      let v = in_part class rows ordering q once l in
      let numbers : place_in (members class rows ordering p) p + 1 ≡ place_in (members class rows ordering q) q + 1 = cc in
      let places : place_in (members class rows ordering p) p ≡ place_in (members class rows ordering q) q = omega arith in
      sym u.at_place ∙ (λ i. get_or (sym one_list i) (places i) 0) ∙ v.at_place

  -- the values are those over one list
  one_part : partition_of class rows ordering q ≡ partition_of class rows ordering p
  one_part = ap (map (row_at rows)) one_list

-- ---- RANK and DENSE_RANK: partition and value give the order's columns

-- a weaker test that passes one more element counts more
count-lt : {X : Type 0} (s t : X → Bool) → ((x : X) → s x ≡ true → t x ≡ true) → (xs : List X) (i : ℕ) (d : X) → i < length xs → t (get_or xs i d) ≡ true → s (get_or xs i d) ≡ false → count_by s xs < count_by t xs
count-lt {X = X} s t weaker xs i d l passes fails =
    let rest = λ (y : X). t y && not (s y) in
    let some = passes_some rest xs i d l (λ m. passes m && not (fails m)) in
    let long : length (filter t xs) ≡ length (filter s xs ++ filter rest xs) = Perm-length (Perm-split s t weaker xs) in
    let more : length (filter rest xs) ≡ suc (length some.1) = ap length some.2 in
    let sums = length-append (filter s xs) (filter rest xs) in
    let a = length-filter s xs in
    let b = length-filter t xs in
    omega arith

lower : (class : ClassRule) (part : List Row) (x y : Row) → group_of class part x < group_of class part y → (z : Row) → nat_lt (group_of class part z) (group_of class part x) ≡ true → nat_lt (group_of class part z) (group_of class part y) ≡ true
lower class part x y h z e = let f = ltb-true (group_of class part z) (group_of class part x) e in lt-ltb _ _ (omega arith)

-- fewer members stand in lower groups
rank-lt : (class : ClassRule) (part : List Row) (i j : ℕ) → i < length part → group_of class part (row_at part i) < group_of class part (row_at part j) →
    count_by (λ z. nat_lt (group_of class part z) (group_of class part (row_at part i))) part < count_by (λ z. nat_lt (group_of class part z) (group_of class part (row_at part j))) part
rank-lt class part i j l h =
    count-lt (λ z. nat_lt (group_of class part z) (group_of class part (row_at part i))) (λ z. nat_lt (group_of class part z) (group_of class part (row_at part j))) (lower class part (row_at part i) (row_at part j) h) part i [] l
    (lt-ltb _ _ h) (le-ltb _ _ (omega arith))

rank_gives_group : (class : ClassRule) (part : List Row) (i j : ℕ) → i < length part → j < length part →
    count_by (λ z. nat_lt (group_of class part z) (group_of class part (row_at part i))) part ≡ count_by (λ z. nat_lt (group_of class part z) (group_of class part (row_at part j))) part → group_of class part (row_at part i) ≡ group_of class part (row_at part j)
rank_gives_group class part i j k l e = by (cases_order (group_of class part (row_at part i)) (group_of class part (row_at part j)))
  where
    by : (group_of class part (row_at part i) ≡ group_of class part (row_at part j)) ⊎ ((group_of class part (row_at part i) < group_of class part (row_at part j)) ⊎ (group_of class part (row_at part j) < group_of class part (row_at part i))) → group_of class part (row_at part i) ≡ group_of class part (row_at part j)
    by (inl h) = h
    by (inr (inl h)) = absurd (let r = rank-lt class part i j k h in omega arith)
    by (inr (inr h)) = absurd (let r = rank-lt class part j i l h in omega arith)

-- ---- frames that are a matter of the key

key_distance_alike : (items : List SortColumn) (a b q : Row) → columns_of (map (λ item. item.column) items) a ≡ columns_of (map (λ item. item.column) items) b → key_distance items a q ≡ key_distance items b q
key_distance_alike [] a b q e = refl
key_distance_alike (item ∷ []) a b q e = let head : column_of a item.column ≡ column_of b item.column = cc in ap (λ v. value_distance item.key.desc v (column_of q item.column)) head
key_distance_alike (item ∷ other ∷ items) a b q e = refl

-- a member is kept whether or not it is the row itself
kept_alike : (exclusion : Exclusion) (s t peer : Bool) → keeps_peers_whole exclusion ≡ true → is_kept exclusion s peer ≡ is_kept exclusion t peer
kept_alike exclude.NoOthers s t peer h = refl
kept_alike exclude.CurrentRow s t peer h = absurd (false≢true h)
kept_alike exclude.Group s t peer h = refl
kept_alike exclude.Ties s t peer h = absurd (false≢true h)

same_frame : (class : ClassRule) (frame : Frame) (part : List Row) (i j : ℕ) → is_stable frame ≡ true → keeps_peers_whole frame.exclusion ≡ true → columns_of (order_columns class) (row_at part i) ≡ columns_of (order_columns class) (row_at part j) → frame_of class frame part i ≡ frame_of class frame part j
same_frame class frame part i j stable kept keys =
    let g = group_of class part in
    let groups : g (row_at part i) ≡ g (row_at part j) = group_alike class part (row_at part i) (row_at part j) keys in
    let by_key : (s : Bool) (q : Row) → stable_test class frame g (row_at part i) s q ≡ stable_test class frame g (row_at part j) s q = λ s q m.
    let d : Distances = record { places = pos 0; groups = pos (g q) -ℤ pos (groups m); keys = key_distance_alike class.order (row_at part i) (row_at part j) q keys m } in
    (bound_asks frame.mode starts_at frame.start d && bound_asks frame.mode ends_at frame.end d) && is_kept frame.exclusion s (nat_eq (groups m) (g q)) in
    let one_test : (m : ℕ × Row) → in_frame class frame g i (row_at part i) m.0 m.1 ≡ in_frame class frame g j (row_at part j) m.0 m.1 = λ m.
    in_stable_frame class frame g i (row_at part i) m.0 m.1 stable
    ∙ by_key (nat_eq i m.0) m.1
    ∙ (let d : Distances = record { places = pos 0; groups = pos (g m.1) -ℤ pos (g (row_at part j)); keys = key_distance class.order (row_at part j) m.1 } in
    ap (λ b. (bound_asks frame.mode starts_at frame.start d && bound_asks frame.mode ends_at frame.end d) && b) (kept_alike frame.exclusion (nat_eq i m.0) (nat_eq j m.0) (nat_eq (g (row_at part j)) (g m.1)) kept))
    ∙ sym (in_stable_frame class frame g j (row_at part j) m.0 m.1 stable) in
    let tests : (λ (m : ℕ × Row). in_frame class frame g i (row_at part i) m.0 m.1) ≡ (λ (m : ℕ × Row). in_frame class frame g j (row_at part j) m.0 m.1) = λ k m. one_test m k in
    ap (λ (t : ℕ × Row → Bool). map (λ (m : ℕ × Row). m.1) (filter t (enumerate_from 0 part))) tests

module _ (class : ClassRule) (frame : Frame) (rows : List Row) (ordering : List ℕ) (once : EachOnce (length rows) ordering) (p q : ℕ) (k : p < length rows) (l : q < length rows) (same : columns_of class.partition (row_at rows p) ≡ columns_of class.partition (row_at rows q)) where
  -- both rows in the one partition list
  record Both : Type 0 where
    i : ℕ
    j : ℕ
    part : List Row
    i_within : i < length part
    j_within : j < length part
    at_i : row_at part i ≡ row_at rows p
    at_j : row_at part j ≡ row_at rows q
    value_p : (function : Function) → value_at class frame function rows ordering p ≡ call_value class frame function part i
    value_q : (function : Function) → value_at class frame function rows ordering q ≡ call_value class frame function part j

  both_rows : Both
  both_rows =
      let u = in_part class rows ordering p once k in
      let v = in_part class rows ordering q once l in
      let e : partition_of class rows ordering q ≡ partition_of class rows ordering p = one_part class frame rows ordering once p q k l same in
      let j = place_in (members class rows ordering q) q in
      record {
        i = place_in (members class rows ordering p) p;
        j = j;
        part = partition_of class rows ordering p;
        i_within = u.within_rows;
        j_within = subst (λ (r : List Row). j < length r) e v.within_rows;
        at_i = u.row;
        at_j = subst (λ (r : List Row). row_at r j ≡ row_at rows q) e v.row;
        value_p = λ function. refl;
        value_q = λ function. ap (λ (r : List Row). call_value class frame function r j) e;
      }

  pub rank_gives_order : value_at class frame (Ranked Rank) rows ordering p ≡ value_at class frame (Ranked Rank) rows ordering q → columns_of (order_columns class) (row_at rows p) ≡ columns_of (order_columns class) (row_at rows q)
  rank_gives_order e =
      let b = both_rows in
      let values : call_value class frame (Ranked Rank) b.part b.i ≡ call_value class frame (Ranked Rank) b.part b.j = sym (b.value_p (Ranked Rank)) ∙ e ∙ b.value_q (Ranked Rank) in
      let ranks : 1 + count_by (λ z. nat_lt (group_of class b.part z) (group_of class b.part (row_at b.part b.i))) b.part ≡ 1 + count_by (λ z. nat_lt (group_of class b.part z) (group_of class b.part (row_at b.part b.j))) b.part = cc in
      let groups = rank_gives_group class b.part b.i b.j b.i_within b.j_within (omega arith) in
      let keys : columns_of (order_columns class) (row_at b.part b.i) ≡ columns_of (order_columns class) (row_at b.part b.j) = key_from_group class b.part b.i b.j b.i_within b.j_within groups in
      ap (columns_of (order_columns class)) (sym b.at_i) ∙ keys ∙ ap (columns_of (order_columns class)) b.at_j

  pub dense_rank_gives_order : value_at class frame (Ranked DenseRank) rows ordering p ≡ value_at class frame (Ranked DenseRank) rows ordering q → columns_of (order_columns class) (row_at rows p) ≡ columns_of (order_columns class) (row_at rows q)
  dense_rank_gives_order e =
      let b = both_rows in
      let values : call_value class frame (Ranked DenseRank) b.part b.i ≡ call_value class frame (Ranked DenseRank) b.part b.j = sym (b.value_p (Ranked DenseRank)) ∙ e ∙ b.value_q (Ranked DenseRank) in
      let ranks : group_of class b.part (row_at b.part b.i) + 1 ≡ group_of class b.part (row_at b.part b.j) + 1 = cc in
      let keys : columns_of (order_columns class) (row_at b.part b.i) ≡ columns_of (order_columns class) (row_at b.part b.j) = key_from_group class b.part b.i b.j b.i_within b.j_within (omega arith) in
      ap (columns_of (order_columns class)) (sym b.at_i) ∙ keys ∙ ap (columns_of (order_columns class)) b.at_j

  -- ---- partition and order give the value

  keys_in_part : (b : Both) → columns_of (order_columns class) (row_at rows p) ≡ columns_of (order_columns class) (row_at rows q) → columns_of (order_columns class) (row_at b.part b.i) ≡ columns_of (order_columns class) (row_at b.part b.j)
  keys_in_part b e = ap (columns_of (order_columns class)) b.at_i ∙ e ∙ sym (ap (columns_of (order_columns class)) b.at_j)

  pub order_gives_rank : columns_of (order_columns class) (row_at rows p) ≡ columns_of (order_columns class) (row_at rows q) → value_at class frame (Ranked Rank) rows ordering p ≡ value_at class frame (Ranked Rank) rows ordering q
  order_gives_rank e =
      let b = both_rows in
      let groups = group_alike class b.part (row_at b.part b.i) (row_at b.part b.j) (keys_in_part b e) in
      b.value_p (Ranked Rank) ∙ (λ m. Ok (Int (pos (1 + count_by (λ z. nat_lt (group_of class b.part z) (groups m)) b.part)))) ∙ sym (b.value_q (Ranked Rank))

  pub order_gives_dense_rank : columns_of (order_columns class) (row_at rows p) ≡ columns_of (order_columns class) (row_at rows q) → value_at class frame (Ranked DenseRank) rows ordering p ≡ value_at class frame (Ranked DenseRank) rows ordering q
  order_gives_dense_rank e =
      let b = both_rows in
      let groups = group_alike class b.part (row_at b.part b.i) (row_at b.part b.j) (keys_in_part b e) in
      b.value_p (Ranked DenseRank) ∙ (λ m. Ok (Int (pos (groups m + 1)))) ∙ sym (b.value_q (Ranked DenseRank))

  -- a stable frame that keeps the row's own group or drops it whole is a matter of the key
  order_gives_frame : (b : Both) → goes_by_key frame ≡ true → columns_of (order_columns class) (row_at rows p) ≡ columns_of (order_columns class) (row_at rows q) → frame_of class frame b.part b.i ≡ frame_of class frame b.part b.j
  order_gives_frame b by_key e = let parts = and_parts (is_stable frame) (keeps_peers_whole frame.exclusion) by_key in same_frame class frame b.part b.i b.j parts.0 parts.1 (keys_in_part b e)

  module _ (by_key : goes_by_key frame ≡ true) (e : columns_of (order_columns class) (row_at rows p) ≡ columns_of (order_columns class) (row_at rows q)) where
    pub order_gives_aggregate : (a : AggregateFunction) → value_at class frame (OfFrame (Aggregate a)) rows ordering p ≡ value_at class frame (OfFrame (Aggregate a)) rows ordering q
    order_gives_aggregate a = let b = both_rows in b.value_p (OfFrame (Aggregate a)) ∙ ap (aggregate_value a) (order_gives_frame b by_key e) ∙ sym (b.value_q (OfFrame (Aggregate a)))
