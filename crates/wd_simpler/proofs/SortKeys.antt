-- Sort keys with the columns that they give back: rows compare alike, so the same orderings are lawful, and calls and limits give the
-- same.
use Rattle.std.proofs.Common.{◌≡◌, ℕ, zero, suc, ◌+◌, ◌<◌, Bool, true, false, cond, ◌&&◌, ◌||◌, List, [], ◌∷◌, ◌++◌, map, filter, length, take_while, drop, count_by, nat_eq, nat_lt, is_eq, is_gt, is_lt, refl, sym, ◌∙◌, ap, subst, Ordering, Less, Equal, Greater, Option, Some, None, option_map, option_to_list, Ok, ℤ, pos, ◌-ℤ◌}
use Rattle.std.specs.List.{AllByRecursion, enumerate_from, list_any}
use Rattle.std.specs.Ordering.{ordering_then}
use Rattle.std.proofs.lemmas.Bool.{or_parts}
use Rattle.std.specs.Prelude.{slice_index_or}
use Rattle.std.proofs.lemmas.List.{length-map}
use Rattle.std.proofs.lemmas.List.Sums.{take_while-cons}
use Rattle.wd_value.proofs.KeyLaws.{compare_keys-exact, compare_keys-ties}
use Rattle.wd_value.proofs.Perms.{Perm-all, count_by-cons}
use Rattle.wd_value.proofs.SameLaws.{same_row-Decides}
use Rattle.wd_value.specs.Bags.{positions}
use Rattle.wd_value.specs.declared.order.SortColumn.{SortColumn}
use Rattle.wd_value.specs.declared.value.Value.TheVariants.{Int}
use Rattle.wd_value.specs.Keys.{ascending, compare_keys, key_columns}
use Rattle.wd_value.specs.Order.{compare}
use Rattle.wd_value.specs.Rows.{Row, column_of, columns_of, row_at, rows_at, same_row}
use Rattle.wd_laws.proofs.Parts.{Perm-ordered}
use Rattle.wd_laws.proofs.ValueKinds.{at_any as at_any_place}
use Rattle.wd_plan.proofs.Parts.{all_filter}
use Rattle.wd_plan.specs.Calls.{call_value, frame_value, ranking_value, value_at}
use Rattle.wd_plan.specs.Choices.{AreOrderings}
use Rattle.wd_plan.specs.declared.function.Function.{Function}
use Rattle.wd_plan.specs.declared.function.Function.TheVariants.{Ranking as Ranked, Shift as Shifted, OfFrame}
use Rattle.wd_plan.specs.declared.function.Ranking.{Ranking}
use Rattle.wd_plan.specs.declared.function.Ranking.TheVariants.{RowNumber, Rank, DenseRank, Ntile}
use Rattle.wd_plan.specs.declared.window.Bound.{Bound}
use Rattle.wd_plan.specs.declared.window.Bound.TheVariants.{UnboundedPreceding, Preceding, CurrentRow, Following, UnboundedFollowing}
use Rattle.wd_plan.specs.declared.window.Call.{Call}
use Rattle.wd_plan.specs.declared.window.Frame.{Frame}
use Rattle.wd_plan.specs.declared.window.FrameMode.{FrameMode}
use Rattle.wd_plan.specs.declared.window.FrameMode.TheVariants as mode
use Rattle.wd_plan.specs.Faults.{all_ok, and_then}
use Rattle.wd_plan.specs.Fits.{has_offset}
use Rattle.wd_plan.specs.Frames.{Distances, bound_asks, ends_at, frame_of, in_frame, is_kept, key_distance, range_asks, starts_at}
use Rattle.wd_plan.specs.Outcomes.{call_at, class_at, limited_rows, extended, first_rows, ordering_at, peers, window_outcome}
use Rattle.wd_plan.specs.Partitions.{different, group_of, members, partition_of, place_in}
use Rattle.wd_plan.specs.Plans.{ClassRule, LimitRule, PlanTree, WindowRule}
use Rattle.wd_plan.specs.Sorting.{IsInOrder, IsOrdering, same_partition}
use Rattle.wd_simpler.proofs.GivenBack.{GivesBack, empty_gives, undone}
use Rattle.wd_simpler.proofs.Rows.{map_same}
use Rattle.wd_simpler.specs.Keyed.{added_keys, source_column, goes_by_distance, keyed, keyed_class, keyed_limit, keyed_window}

-- ---- keys

then_later : (a b c : Ordering) → ordering_then (ordering_then a b) c ≡ ordering_then a (ordering_then b c)
then_later Less b c = refl
then_later Equal b c = refl
then_later Greater b c = refl

compare_append : (keys more : List SortColumn) (a b : Row) → compare_keys (keys ++ more) a b ≡ ordering_then (compare_keys keys a b) (compare_keys more a b)
compare_append [] more a b = refl
compare_append (item ∷ keys) more a b = ap (ordering_then (compare item.key (column_of a item.column) (column_of b item.column))) (compare_append keys more a b) ∙ sym (then_later (compare item.key (column_of a item.column) (column_of b item.column)) (compare_keys keys a b) (compare_keys more a b))

then_tie : (a b : Ordering) → (a ≡ Equal → b ≡ Equal) → ordering_then a b ≡ a
then_tie Less b h = refl
then_tie Equal b h = h refl
then_tie Greater b h = refl

pub bool_same : (a b : Bool) → (a ≡ true → b ≡ true) → (b ≡ true → a ≡ true) → a ≡ b
bool_same true b h k = sym (h refl)
bool_same false true h k = k refl
bool_same false false h k = refl

equal_is : (o : Ordering) → is_eq o ≡ true → o ≡ Equal
equal_is Less h = absurd cc
equal_is Equal h = refl
equal_is Greater h = absurd cc

-- rows are the same on the columns of sort keys where they tie
same_on_keys : (keys : List SortColumn) (a b : Row) → same_row (columns_of (key_columns keys) a) (columns_of (key_columns keys) b) ≡ is_eq (compare_keys keys a b)
same_on_keys keys a b =
    let decides = same_row-Decides (columns_of (key_columns keys) a) (columns_of (key_columns keys) b) in
    bool_same _ _ (λ h. ap is_eq (compare_keys-ties keys a b (decides.0 h))) (λ h. decides.1 (compare_keys-exact keys a b (equal_is (compare_keys keys a b) h)))

any_same : {X : Type 0} (t u : X → Bool) (xs : List X) → AllByRecursion (λ x. t x ≡ u x) xs → list_any t xs ≡ list_any u xs
any_same t u [] a = refl
any_same t u (x ∷ xs) a = λ i. a.0 i || any_same t u xs a.1 i

any_map : {X Y : Type 0} (f : X → Y) (t : Y → Bool) (xs : List X) → list_any t (map f xs) ≡ list_any (λ x. t (f x)) xs
any_map f t [] = refl
any_map f t (x ∷ xs) = ap (λ b. t (f x) || b) (any_map f t xs)

pub filter_same : {X : Type 0} (P : X → Type 0) (t u : X → Bool) → ((x : X) → P x → t x ≡ u x) → (xs : List X) → AllByRecursion P xs → filter t xs ≡ filter u xs
filter_same P t u h [] a = refl
filter_same P t u h (x ∷ xs) a = λ i. cond (h x a.0 i) (x ∷ filter_same P t u h xs a.1 i) (filter_same P t u h xs a.1 i)

count_same : {X : Type 0} (P : X → Type 0) (t u : X → Bool) → ((x : X) → P x → t x ≡ u x) → (xs : List X) → AllByRecursion P xs → count_by t xs ≡ count_by u xs
count_same P t u h [] a = refl
count_same P t u h (x ∷ xs) a = count_by-cons t x xs ∙ (λ i. cond (h x a.0 i) 1 0 + count_same P t u h xs a.1 i) ∙ sym (count_by-cons u x xs)

while_same : {X : Type 0} (P : X → Type 0) (t u : X → Bool) → ((x : X) → P x → t x ≡ u x) → (xs : List X) → AllByRecursion P xs → take_while t xs ≡ take_while u xs
while_same P t u h [] a = refl
while_same P t u h (x ∷ xs) a = take_while-cons t x xs ∙ (λ i. cond (h x a.0 i) (x ∷ while_same P t u h xs a.1 i) []) ∙ sym (take_while-cons u x xs)

all_more : {X : Type 0} (P Q : X → Type 0) → ((x : X) → P x → Q x) → (xs : List X) → AllByRecursion P xs → AllByRecursion Q xs
all_more P Q h [] a = tt
all_more P Q h (x ∷ xs) a = (h x a.0, all_more P Q h xs a.1)

-- ---- rows that are the same on further keys where they are on these

module _ (P : Row → Type 0) (keys more : List SortColumn) (given : (a b : Row) → P a → P b → columns_of (key_columns keys) a ≡ columns_of (key_columns keys) b → columns_of (key_columns more) a ≡ columns_of (key_columns more) b) where
  compare_more : (a b : Row) → P a → P b → compare_keys (keys ++ more) a b ≡ compare_keys keys a b
  compare_more a b p q =
      compare_append keys more a b
      ∙ then_tie (compare_keys keys a b) (compare_keys more a b) (λ e. compare_keys-ties more a b (given a b p q (compare_keys-exact keys a b e)))

  same_more : (a b : Row) → P a → P b → same_row (columns_of (key_columns (keys ++ more)) a) (columns_of (key_columns (keys ++ more)) b) ≡ same_row (columns_of (key_columns keys) a) (columns_of (key_columns keys) b)
  same_more a b p q = same_on_keys (keys ++ more) a b ∙ ap is_eq (compare_more a b p q) ∙ sym (same_on_keys keys a b)

  -- ---- orderings

  module _ (partition : List ℕ) where
    abbrev own : ClassRule
    own = record { partition = partition; order = keys }

    abbrev longer : ClassRule
    longer = record { partition = partition; order = keys ++ more }

    abbrev Stands : ClassRule → Row → Row → Type 0
    Stands class r q = same_partition class r q ≡ true → is_gt (compare_keys class.order r q) ≡ false

    order_to : (rows : List Row) → AllByRecursion P rows → IsInOrder own rows → IsInOrder longer rows
    order_to [] a h = tt
    order_to (r ∷ rows) a h = (each rows a.1 h.0, order_to rows a.1 h.1)
      where
        each : (rows : List Row) → AllByRecursion P rows → AllByRecursion (Stands own r) rows → AllByRecursion (Stands longer r) rows
        each [] b k = tt
        each (q ∷ rows) b k = ((λ e. ap is_gt (compare_more r q a.0 b.0) ∙ k.0 e), each rows b.1 k.1)

    order_from : (rows : List Row) → AllByRecursion P rows → IsInOrder longer rows → IsInOrder own rows
    order_from [] a h = tt
    order_from (r ∷ rows) a h = (each rows a.1 h.0, order_from rows a.1 h.1)
      where
        each : (rows : List Row) → AllByRecursion P rows → AllByRecursion (Stands longer r) rows → AllByRecursion (Stands own r) rows
        each [] b k = tt
        each (q ∷ rows) b k = ((λ e. sym (ap is_gt (compare_more r q a.0 b.0)) ∙ k.0 e), each rows b.1 k.1)

    pub ordering_to : (rows : List Row) (ordering : List ℕ) → AllByRecursion P rows → IsOrdering own rows ordering → IsOrdering longer rows ordering
    ordering_to rows ordering a o = record { once = o.once; in_order = order_to (rows_at rows ordering) (Perm-all P (Perm-ordered rows ordering o.once) a) o.in_order }

    pub ordering_from : (rows : List Row) (ordering : List ℕ) → AllByRecursion P rows → IsOrdering longer rows ordering → IsOrdering own rows ordering
    ordering_from rows ordering a o = record { once = o.once; in_order = order_from (rows_at rows ordering) (Perm-all P (Perm-ordered rows ordering o.once) a) o.in_order }

    -- ---- peer groups

    different_more : (rows : List Row) → AllByRecursion P rows → different (map (columns_of (key_columns (keys ++ more))) rows) ≡ different (map (columns_of (key_columns keys)) rows)
    different_more [] a = refl
    different_more (r ∷ rows) a =
        let old = columns_of (key_columns keys) in
        let new = columns_of (key_columns (keys ++ more)) in
        let any : list_any (same_row (new r)) (map new rows) ≡ list_any (same_row (old r)) (map old rows) =
        any_map new (same_row (new r)) rows
        ∙ any_same (λ q. same_row (new r) (new q)) (λ q. same_row (old r) (old q)) rows (all_more P (λ q. same_row (new r) (new q) ≡ same_row (old r) (old q)) (λ q p. same_more r q a.0 p) rows a.1)
        ∙ sym (any_map old (same_row (old r)) rows) in
        λ i. cond (any i) 0 1 + different_more rows a.1 i

    group_more : (part : List Row) → AllByRecursion P part → (r : Row) → P r → group_of longer part r ≡ group_of own part r
    group_more part a r p =
        let below = λ (q : Row). is_lt (compare_keys keys q r) in
        ap (λ l. different (map (columns_of (key_columns (keys ++ more))) l)) (filter_same P (λ q. is_lt (compare_keys (keys ++ more) q r)) below (λ q k. ap is_lt (compare_more q r k p)) part a)
        ∙ different_more (filter below part) (all_filter below P P (λ q k e. k) part a)

    -- ---- frames

    asks_more : (f : Frame) → goes_by_distance f ≡ false → (asks : Bound → ℤ → Bool) (b : Bound) → (has_offset f.start || has_offset f.end ≡ false → has_offset b ≡ false) → (d e : Distances) → d.places ≡ e.places → d.groups ≡ e.groups → bound_asks f.mode asks b d ≡ bound_asks f.mode asks b e
    asks_more f h asks b k d e same_places same_groups = by f.mode refl
      where
        ranged : (bound : Bound) → has_offset bound ≡ false → range_asks asks bound d.keys d.groups ≡ range_asks asks bound e.keys e.groups
        ranged UnboundedPreceding n = ap (asks UnboundedPreceding) same_groups
        ranged (Preceding m) n = absurd cc
        ranged CurrentRow n = ap (asks CurrentRow) same_groups
        ranged (Following m) n = absurd cc
        ranged UnboundedFollowing n = ap (asks UnboundedFollowing) same_groups

        by : (m : FrameMode) → f.mode ≡ m → bound_asks m asks b d ≡ bound_asks m asks b e
        by mode.Rows is = ap (asks b) same_places
        by mode.Groups is = ap (asks b) same_groups
        by mode.Range is = ranged b (k (subst (λ m. goes_by_distance (record f { mode = m }) ≡ false) is h))

    abbrev Steady : Frame → Type 0
    Steady f = goes_by_distance f ≡ false

    test_more : (f : Frame) → Steady f → (part : List Row) → AllByRecursion P part → (i : ℕ) (r : Row) → P r → (j : ℕ) (q : Row) → P q → in_frame longer f (group_of longer part) i r j q ≡ in_frame own f (group_of own part) i r j q
    test_more f h part a i r p j q k =
        let mine = group_more part a r p in
        let others = group_more part a q k in
        let d : Distances = record { places = pos j -ℤ pos i; groups = pos (group_of longer part q) -ℤ pos (group_of longer part r); keys = key_distance (keys ++ more) r q } in
        let e : Distances = record { places = pos j -ℤ pos i; groups = pos (group_of own part q) -ℤ pos (group_of own part r); keys = key_distance keys r q } in
        let same_groups : d.groups ≡ e.groups = λ t. pos (others t) -ℤ pos (mine t) in
        let start : bound_asks f.mode starts_at f.start d ≡ bound_asks f.mode starts_at f.start e = asks_more f h starts_at f.start (λ o. (or_parts (has_offset f.start) (has_offset f.end) o).0) d e refl same_groups in
        let end : bound_asks f.mode ends_at f.end d ≡ bound_asks f.mode ends_at f.end e = asks_more f h ends_at f.end (λ o. (or_parts (has_offset f.start) (has_offset f.end) o).1) d e refl same_groups in
        λ t. (start t && end t) && is_kept f.exclusion (nat_eq i j) (nat_eq (mine t) (others t))

    all_numbered : (n : ℕ) (rows : List Row) → AllByRecursion P rows → AllByRecursion (λ (m : ℕ × Row). P m.1) (enumerate_from n rows)
    all_numbered n [] a = tt
    all_numbered n (r ∷ rows) a = (a.0, all_numbered (n + 1) rows a.1)

    module _ (empty : P []) where
      place_holds : (part : List Row) → AllByRecursion P part → (i : ℕ) → P (row_at part i)
      place_holds part a i = at_any_place P part i [] a empty

      frame_more : (f : Frame) → Steady f → (part : List Row) → AllByRecursion P part → (i : ℕ) → frame_of longer f part i ≡ frame_of own f part i
      frame_more f h part a i =
          ap (map (λ (m : ℕ × Row). m.1))
          (filter_same (λ (m : ℕ × Row). P m.1) (λ m. in_frame longer f (group_of longer part) i (row_at part i) m.0 m.1) (λ m. in_frame own f (group_of own part) i (row_at part i) m.0 m.1)
          (λ m p. test_more f h part a i (row_at part i) (place_holds part a i) m.0 m.1 p) (enumerate_from 0 part) (all_numbered 0 part a))

      ranking_more : (r : Ranking) (part : List Row) → AllByRecursion P part → (i : ℕ) → ranking_value longer r part i ≡ ranking_value own r part i
      ranking_more RowNumber part a i = refl
      ranking_more Rank part a i =
          let mine = group_more part a (row_at part i) (place_holds part a i) in
          ap (λ n. 1 + n) (count_same P (λ q. nat_lt (group_of longer part q) (group_of longer part (row_at part i))) (λ q. nat_lt (group_of own part q) (group_of own part (row_at part i))) (λ q p. λ t. nat_lt (group_more part a q p t) (mine t)) part a)
      ranking_more DenseRank part a i = ap (λ n. n + 1) (group_more part a (row_at part i) (place_holds part a i))
      ranking_more (Ntile n) part a i = refl

      call_more : (f : Frame) → Steady f → (function : Function) (part : List Row) → AllByRecursion P part → (i : ℕ) → call_value longer f function part i ≡ call_value own f function part i
      call_more f h (Ranked r) part a i = ap (λ n. Ok (Int (pos n))) (ranking_more r part a i)
      call_more f h (Shifted s) part a i = refl
      call_more f h (OfFrame g) part a i = ap (frame_value g) (frame_more f h part a i)

      rows_hold : (rows : List Row) (ps : List ℕ) → AllByRecursion P rows → AllByRecursion P (rows_at rows ps)
      rows_hold rows [] a = tt
      rows_hold rows (p ∷ ps) a = (place_holds rows a p, rows_hold rows ps a)

      pub value_more : (f : Frame) → Steady f → (function : Function) (rows : List Row) (ordering : List ℕ) → AllByRecursion P rows → (r : ℕ) → value_at longer f function rows ordering r ≡ value_at own f function rows ordering r
      value_more f h function rows ordering a r = call_more f h function (partition_of own rows ordering r) (rows_hold rows (members own rows ordering r) a) (place_in (members own rows ordering r) r)

  -- ---- limits

  tied_more : (ties : Bool) (r : Row) (rows : List Row) → P r → AllByRecursion P rows → cond ties (take_while (peers (keys ++ more) r) rows) [] ≡ cond ties (take_while (peers keys r) rows) []
  tied_more false r rows p a = refl
  tied_more true r rows p a = while_same P (peers (keys ++ more) r) (peers keys r) (λ q k. ap is_eq (compare_more r q p k)) rows a

  first_more : (ties : Bool) (n : ℕ) (rows : List Row) → AllByRecursion P rows → first_rows (keys ++ more) ties n rows ≡ first_rows keys ties n rows
  first_more ties zero rows a = refl
  first_more ties (suc n) [] a = refl
  first_more ties (suc zero) (r ∷ rows) a = ap (λ l. r ∷ l) (tied_more ties r rows a.0 a.1)
  first_more ties (suc (suc n)) (r ∷ rows) a = ap (λ l. r ∷ l) (first_more ties (suc n) rows a.1)

all_dropped : (P : Row → Type 0) (n : ℕ) (rows : List Row) → AllByRecursion P rows → AllByRecursion P (drop n rows)
all_dropped P zero rows a = a
all_dropped P (suc n) [] a = tt
all_dropped P (suc n) (r ∷ rows) a = all_dropped P n rows a.1

-- ---- keys that give columns back

given_keys : (input : PlanTree) (keys : List SortColumn) (a b : Row) → GivesBack input a → GivesBack input b → columns_of (key_columns keys) a ≡ columns_of (key_columns keys) b → columns_of (key_columns (added_keys input keys)) a ≡ columns_of (key_columns (added_keys input keys)) b
given_keys input [] a b p q e = refl
given_keys input (item ∷ keys) a b p q e = by (given_keys input keys a b p q tail) (source_column input item.column) refl
  where
    head : column_of a item.column ≡ column_of b item.column
    head = cc

    tail : columns_of (key_columns keys) a ≡ columns_of (key_columns keys) b
    tail = cc

    by : columns_of (key_columns (added_keys input keys)) a ≡ columns_of (key_columns (added_keys input keys)) b → (o : Option ℕ) → source_column input item.column ≡ o → columns_of (key_columns (option_to_list (option_map ascending o) ++ added_keys input keys)) a ≡ columns_of (key_columns (option_to_list (option_map ascending o) ++ added_keys input keys)) b
    by rest None is = rest
    by rest (Some c) is = λ i. (p item.column c is ∙ ap (undone input item.column) head ∙ sym (q item.column c is)) i ∷ rest i

module _ (input : PlanTree) (rows : List Row) (gives : AllByRecursion (GivesBack input) rows) where
  pub ordering_keyed : (partition : List ℕ) (keys : List SortColumn) (ordering : List ℕ) → IsOrdering (record { partition = partition; order = keys }) rows ordering → IsOrdering (record { partition = partition; order = keyed input keys }) rows ordering
  ordering_keyed partition keys ordering = ordering_to (GivesBack input) keys (added_keys input keys) (given_keys input keys) partition rows ordering gives

  pub ordering_unkeyed : (partition : List ℕ) (keys : List SortColumn) (ordering : List ℕ) → IsOrdering (record { partition = partition; order = keyed input keys }) rows ordering → IsOrdering (record { partition = partition; order = keys }) rows ordering
  ordering_unkeyed partition keys ordering = ordering_from (GivesBack input) keys (added_keys input keys) (given_keys input keys) partition rows ordering gives

  -- rows at any two places compare alike with the keys' columns and without them
  pub compare_keyed : (before keys : List SortColumn) (p q : ℕ) → compare_keys (before ++ keyed input keys) (row_at rows p) (row_at rows q) ≡ compare_keys (before ++ keys) (row_at rows p) (row_at rows q)
  compare_keyed before keys p q =
      let a = row_at rows p in
      let b = row_at rows q in
      let given = λ (n : ℕ). at_any_place (GivesBack input) rows n [] gives (empty_gives input) in
      compare_append before (keyed input keys) a b
      ∙ ap (ordering_then (compare_keys before a b)) (compare_more (GivesBack input) keys (added_keys input keys) (given_keys input keys) a b (given p) (given q))
      ∙ sym (compare_append before keys a b)

  value_keyed : (class : ClassRule) (frame : Frame) → goes_by_distance frame ≡ false → (function : Function) (ordering : List ℕ) (r : ℕ) → value_at (keyed_class input class) frame function rows ordering r ≡ value_at class frame function rows ordering r
  value_keyed class frame steady function ordering r = value_more (GivesBack input) class.order (added_keys input class.order) (given_keys input class.order) class.partition (empty_gives input) frame steady function rows ordering gives r

  pub cut_keyed : (limit : LimitRule) (ordering : List ℕ) → limited_rows limit (rows_at rows ordering) ≡ limited_rows (keyed_limit input limit) (rows_at rows ordering)
  cut_keyed limit ordering = by limit.count
    where
      all : AllByRecursion (GivesBack input) (rows_at rows ordering)
      all = held ordering
        where
          held : (ps : List ℕ) → AllByRecursion (GivesBack input) (rows_at rows ps)
          held [] = tt
          held (p ∷ ps) = (at_any_place (GivesBack input) rows p [] gives (empty_gives input), held ps)

      by : (count : Option ℕ) → limited_rows (record limit { count = count }) (rows_at rows ordering) ≡ limited_rows (keyed_limit input (record limit { count = count })) (rows_at rows ordering)
      by None = refl
      by (Some n) = sym (first_more (GivesBack input) limit.keys (added_keys input limit.keys) (given_keys input limit.keys) limit.ties n (drop limit.offset (rows_at rows ordering)) (all_dropped (GivesBack input) limit.offset (rows_at rows ordering) all))

-- ---- Windows

abbrev goes : WindowRule → Bool
goes w = list_any (λ (call : Call). goes_by_distance call.frame) w.calls

abbrev keyed_if : Bool → PlanTree → WindowRule → WindowRule
keyed_if b input w = cond b w (record { classes = map (keyed_class input) w.classes; calls = w.calls })

pub calls_stay : (input : PlanTree) (w : WindowRule) → (keyed_window input w).calls ≡ w.calls
calls_stay input w = by (goes w)
  where
    by : (b : Bool) → (keyed_if b input w).calls ≡ w.calls
    by true = refl
    by false = refl

pub classes_stay : (input : PlanTree) (w : WindowRule) → length (keyed_window input w).classes ≡ length w.classes
classes_stay input w = by (goes w)
  where
    by : (b : Bool) → length (keyed_if b input w).classes ≡ length w.classes
    by true = refl
    by false = length-map w.classes (keyed_class input)

class_keyed : (input : PlanTree) (classes : List ClassRule) (n : ℕ) → slice_index_or (map (keyed_class input) classes) n (record { partition = []; order = [] }) ≡ keyed_class input (slice_index_or classes n (record { partition = []; order = [] }))
class_keyed input [] n = refl
class_keyed input (class ∷ classes) zero = refl
class_keyed input (class ∷ classes) (suc n) = class_keyed input classes n

-- what is so of a class with the keys' columns, and then of the class without them, is so of that of a Window
pub at_keyed : (P : ClassRule → Type 0) (input : PlanTree) (w : WindowRule) (n : ℕ) → (P (keyed_class input (class_at w n)) → P (class_at w n)) → P (class_at (keyed_window input w) n) → P (class_at w n)
at_keyed P input w n h = by (goes w)
  where
    by : (b : Bool) → P (class_at (keyed_if b input w) n) → P (class_at w n)
    by true p = p
    by false p = h (subst P (class_keyed input w.classes n) p)

all_steady : (calls : List Call) → list_any (λ (call : Call). goes_by_distance call.frame) calls ≡ false → AllByRecursion (λ (call : Call). goes_by_distance call.frame ≡ false) calls
all_steady [] h = tt
all_steady (call ∷ calls) h =
    let parts = or_parts (goes_by_distance call.frame) (list_any (λ (call : Call). goes_by_distance call.frame) calls) h in
    (parts.0, all_steady calls parts.1)

module _ (input : PlanTree) (w : WindowRule) (rows : List Row) (gives : AllByRecursion (GivesBack input) rows) (orderings : List (List ℕ)) where
  abbrev keyed_rule : WindowRule
  keyed_rule = record { classes = map (keyed_class input) w.classes; calls = w.calls }

  pub window_keyed : window_outcome w rows orderings ≡ window_outcome (keyed_window input w) rows orderings
  window_keyed = by (goes w) refl
    where
      call_keyed : (r : ℕ) (call : Call) → goes_by_distance call.frame ≡ false → call_at w rows orderings r call ≡ call_at keyed_rule rows orderings r call
      call_keyed r call h =
          sym (value_keyed input rows gives (class_at w call.class) call.frame h call.function (ordering_at orderings call.class) r)
          ∙ ap (λ class. value_at class call.frame call.function rows (ordering_at orderings call.class) r) (sym (class_keyed input w.classes call.class))

      row_keyed : goes w ≡ false → (r : ℕ) → extended w rows orderings r ≡ extended keyed_rule rows orderings r
      row_keyed h r = ap (λ values. and_then (all_ok values) (λ vs. Ok (row_at rows r ++ vs))) (map_same (λ (call : Call). goes_by_distance call.frame ≡ false) (call_at w rows orderings r) (call_at keyed_rule rows orderings r) (call_keyed r) w.calls (all_steady w.calls h))

      by : (b : Bool) → goes w ≡ b → window_outcome w rows orderings ≡ window_outcome (keyed_if b input w) rows orderings
      by true h = refl
      by false h = λ i. all_ok (map (λ r. row_keyed h r i) (positions (length rows)))

  pub orderings_keyed : AreOrderings w.classes rows orderings → AreOrderings (keyed_window input w).classes rows orderings
  orderings_keyed o = by (goes w)
    where
      by : (b : Bool) → AreOrderings (keyed_if b input w).classes rows orderings
      by true = o
      by false = record {
        number = o.number ∙ sym (length-map w.classes (keyed_class input));
        each = λ n h. subst (λ class. IsOrdering class rows (ordering_at orderings n)) (sym (class_keyed input w.classes n)) (ordering_keyed input rows gives (class_at w n).partition (class_at w n).order (ordering_at orderings n) (o.each n (subst (λ k. n < k) (length-map w.classes (keyed_class input)) h)));
      }

  pub orderings_unkeyed : AreOrderings (keyed_window input w).classes rows orderings → AreOrderings w.classes rows orderings
  orderings_unkeyed = by (goes w)
    where
      by : (b : Bool) → AreOrderings (keyed_if b input w).classes rows orderings → AreOrderings w.classes rows orderings
      by true o = o
      by false o = record {
        number = o.number ∙ length-map w.classes (keyed_class input);
        each = λ n h. ordering_unkeyed input rows gives (class_at w n).partition (class_at w n).order (ordering_at orderings n) (subst (λ class. IsOrdering class rows (ordering_at orderings n)) (class_keyed input w.classes n) (o.each n (subst (λ k. n < k) (sym (length-map w.classes (keyed_class input))) h)));
      }
