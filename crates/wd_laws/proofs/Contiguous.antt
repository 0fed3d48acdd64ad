-- A frame without exclusion is contiguous: further along a sorted partition list a start that holds goes on to hold, and before
-- a member at which an end holds it holds too.
use Rattle.std.proofs.Common.{◌≡◌, ℕ, zero, suc, ◌<◌, ◌≤◌, ℤ, pos, ◌-ℤ◌, neg_ℤ, Bool, true, false, if◌then◌else◌, ◌&&◌, List, [], ◌∷◌, length, get_or, nat_eq, refl, sym, ◌∙◌, ap, subst, arith, Ordering, Less, Equal, Greater, is_gt, Some, None, int_cmp}
use Rattle.std.proofs.lemmas.Bool.{and_parts}
use Rattle.std.proofs.lemmas.Int.{ints}
use Rattle.std.specs.Prelude.{int_le}
use Rattle.std.specs.List.{AllByRecursion}
use Rattle.std.specs.Ordering.{ordering_then}
use Rattle.wd_plan.proofs.Groups.{group-lt}
use Rattle.wd_plan.proofs.Parts.{NotAfter, ordered, partition_of-is, rising_part}
use Rattle.wd_plan.proofs.Sorted.{Rising}
use Rattle.wd_plan.proofs.SortedGroups.{tied_group}
use Rattle.wd_laws.proofs.IndexRanges.{range_passes}
use Rattle.wd_plan.specs.Frames.{Distances, bound_asks, ends_at, in_frame, is_kept, key_distance, range_asks, starts_at, value_distance}
use Rattle.wd_value.specs.Keys.{compare_keys}
use Rattle.wd_laws.specs.Laws.{FramesAreContiguous, IsContiguous, frame_takes}
use Rattle.wd_plan.specs.Partitions.{group_of, partition_of}
use Rattle.wd_plan.specs.Plans.{ClassRule}
use Rattle.wd_value.specs.declared.order.SortColumn.{SortColumn}
use Rattle.wd_plan.specs.declared.window.Bound.{Bound}
use Rattle.wd_plan.specs.declared.window.Bound.TheVariants.{CurrentRow, Following, Preceding, UnboundedFollowing, UnboundedPreceding}
use Rattle.wd_plan.specs.declared.window.Exclusion.TheVariants.{NoOthers}
use Rattle.wd_plan.specs.declared.window.Frame.{Frame}
use Rattle.wd_plan.specs.declared.window.FrameMode.{FrameMode}
use Rattle.wd_plan.specs.declared.window.FrameMode.TheVariants as mode
use Rattle.wd_value.proofs.OrderLaws.{compare-exact}
use Rattle.wd_value.specs.Order.{compare}
use Rattle.wd_value.specs.Rows.{Row, column_of, row_at}
use Rattle.wd_value.specs.declared.order.SortKey.{SortKey}
use Rattle.wd_value.specs.declared.value.Value.{Value}
use Rattle.wd_value.specs.declared.value.Value.TheVariants.{Int}

-- ---- distances

at_most : (a b c : ℤ) → int_le a b ≡ true → int_le b c ≡ true → int_le a c ≡ true
at_most a b c h k = grind (arith, ints)

-- from one place, what stands further along is no nearer
nearer : (m a b : ℕ) → a ≤ b → int_le (pos a -ℤ pos m) (pos b -ℤ pos m) ≡ true
nearer m a b h = grind (arith, ints)

nearer_keys : (desc : Bool) (n a b : ℤ) → is_gt (if desc then int_cmp b a else int_cmp a b) ≡ false → int_le (if desc then n -ℤ a else a -ℤ n) (if desc then n -ℤ b else b -ℤ n) ≡ true
nearer_keys true n a b h = grind (arith, ints)
nearer_keys false n a b h = grind (arith, ints)

-- a start that holds at a distance holds at a greater one
starts_up : (bound : Bound) (d e : ℤ) → int_le d e ≡ true → starts_at bound d ≡ true → starts_at bound e ≡ true
starts_up UnboundedPreceding d e h t = refl
starts_up (Preceding n) d e h t = at_most (neg_ℤ (pos n)) d e t h
starts_up CurrentRow d e h t = at_most (pos 0) d e t h
starts_up (Following n) d e h t = at_most (pos n) d e t h
starts_up UnboundedFollowing d e h t = t

-- an end that holds at a distance holds at a lesser one
ends_down : (bound : Bound) (d e : ℤ) → int_le e d ≡ true → ends_at bound d ≡ true → ends_at bound e ≡ true
ends_down UnboundedPreceding d e h t = t
ends_down (Preceding n) d e h t = at_most e d (neg_ℤ (pos n)) h t
ends_down CurrentRow d e h t = at_most e d (pos 0) h t
ends_down (Following n) d e h t = at_most e d (pos n) h t
ends_down UnboundedFollowing d e h t = refl

-- ---- the bounds of RANGE, from one distance to another that keeps what is asked

module _ (asks : Bound → ℤ → Bool) (R : ℤ → ℤ → Type 0) (keeps : (bound : Bound) (d e : ℤ) → R d e → asks bound d ≡ true → asks bound e ≡ true) where
  -- from a key at a distance to another
  both_keys : (bound : Bound) (d e g h : ℤ) → R d e → R g h → range_asks asks bound (Some d) g ≡ true → range_asks asks bound (Some e) h ≡ true
  both_keys UnboundedPreceding d e g h near far t = keeps UnboundedPreceding g h far t
  both_keys (Preceding n) d e g h near far t = keeps (Preceding n) d e near t
  both_keys CurrentRow d e g h near far t = keeps CurrentRow g h far t
  both_keys (Following n) d e g h near far t = keeps (Following n) d e near t
  both_keys UnboundedFollowing d e g h near far t = keeps UnboundedFollowing g h far t

  no_keys : (bound : Bound) (g h : ℤ) → R g h → range_asks asks bound None g ≡ true → range_asks asks bound None h ≡ true
  no_keys UnboundedPreceding g h far t = keeps UnboundedPreceding g h far t
  no_keys (Preceding n) g h far t = keeps CurrentRow g h far t
  no_keys CurrentRow g h far t = keeps CurrentRow g h far t
  no_keys (Following n) g h far t = keeps CurrentRow g h far t
  no_keys UnboundedFollowing g h far t = keeps UnboundedFollowing g h far t

  -- from a key at a distance to one without, in a group that CURRENT ROW takes
  leaving_keys : (bound : Bound) (d g h : ℤ) → R g h → asks CurrentRow h ≡ true → range_asks asks bound (Some d) g ≡ true → range_asks asks bound None h ≡ true
  leaving_keys UnboundedPreceding d g h far here t = keeps UnboundedPreceding g h far t
  leaving_keys (Preceding n) d g h far here t = here
  leaving_keys CurrentRow d g h far here t = here
  leaving_keys (Following n) d g h far here t = here
  leaving_keys UnboundedFollowing d g h far here t = keeps UnboundedFollowing g h far t

  -- from a key without a distance, in a group that CURRENT ROW does not take
  entering_keys : (bound : Bound) (e g h : ℤ) → R g h → (asks CurrentRow g ≡ true → ⊥) → range_asks asks bound None g ≡ true → range_asks asks bound (Some e) h ≡ true
  entering_keys UnboundedPreceding e g h far not_here t = keeps UnboundedPreceding g h far t
  entering_keys (Preceding n) e g h far not_here t = absurd (not_here t)
  entering_keys CurrentRow e g h far not_here t = absurd (not_here t)
  entering_keys (Following n) e g h far not_here t = absurd (not_here t)
  entering_keys UnboundedFollowing e g h far not_here t = keeps UnboundedFollowing g h far t

abbrev Up : ℤ → ℤ → Type 0
Up d e = int_le d e ≡ true

abbrev Down : ℤ → ℤ → Type 0
Down d e = int_le e d ≡ true

strictly : (o : Ordering) → is_gt o ≡ false → (o ≡ Equal → ⊥) → o ≡ Less
strictly Less h n = refl
strictly Equal h n = absurd (n refl)
strictly Greater h n = cc

not_before : (a b : ℕ) → a < b → int_le (pos 0) (pos a -ℤ pos b) ≡ true → ⊥
not_before a b l h = grind (arith, ints)

not_after : (a b : ℕ) → a < b → int_le (pos b -ℤ pos a) (pos 0) ≡ true → ⊥
not_after a b l h = grind (arith, ints)

-- a key v of the row, a key x, and a key y after it; without a whole number a key stands before all whole numbers or after
-- all of them
range_starts : (bound : Bound) (key : SortKey) (v x y : Value) (gv gx gy : ℕ) → is_gt (compare key x y) ≡ false → gx ≤ gy → (is_gt (compare key v y) ≡ false → gv ≤ gy) → (compare key x v ≡ Less → gx < gv)
    → range_asks starts_at bound (value_distance key.desc v x) (pos gx -ℤ pos gv) ≡ true → range_asks starts_at bound (value_distance key.desc v y) (pos gy -ℤ pos gv) ≡ true
range_starts bound key (Int n) (Int a) (Int b) gv gx gy h l after before t = both_keys starts_at Up starts_up bound _ _ _ _ (nearer_keys key.desc n a b h) (nearer gv gx gy l) t
range_starts bound key (Int n) (Int a) y gv gx gy h l after before t = leaving_keys starts_at Up starts_up bound _ _ _ (nearer gv gx gy l) (let k : gv ≤ gy = after h in grind (arith, ints)) t
range_starts bound key (Int n) x (Int b) gv gx gy h l after before t = entering_keys starts_at Up starts_up bound _ _ _ (nearer gv gx gy l) (not_before gx gv (before (strictly (compare key x (Int n)) h (λ e. let same = compare-exact key x (Int n) e in cc)))) t
range_starts bound key (Int n) x y gv gx gy h l after before t = no_keys starts_at Up starts_up bound _ _ (nearer gv gx gy l) t
range_starts bound key v x y gv gx gy h l after before t = no_keys starts_at Up starts_up bound _ _ (nearer gv gx gy l) t

-- the same for an end: what holds at y holds at x, before it
range_ends : (bound : Bound) (key : SortKey) (v x y : Value) (gv gx gy : ℕ) → is_gt (compare key x y) ≡ false → gx ≤ gy → (is_gt (compare key x v) ≡ false → gx ≤ gv) → (compare key v y ≡ Less → gv < gy)
    → range_asks ends_at bound (value_distance key.desc v y) (pos gy -ℤ pos gv) ≡ true → range_asks ends_at bound (value_distance key.desc v x) (pos gx -ℤ pos gv) ≡ true
range_ends bound key (Int n) (Int a) (Int b) gv gx gy h l before after t = both_keys ends_at Down ends_down bound _ _ _ _ (nearer_keys key.desc n a b h) (nearer gv gx gy l) t
range_ends bound key (Int n) (Int a) y gv gx gy h l before after t = entering_keys ends_at Down ends_down bound _ _ _ (nearer gv gx gy l) (not_after gv gy (after (strictly (compare key (Int n) y) h (λ e. let same = compare-exact key (Int n) y e in cc)))) t
range_ends bound key (Int n) x (Int b) gv gx gy h l before after t = leaving_keys ends_at Down ends_down bound _ _ _ (nearer gv gx gy l) (let k : gx ≤ gv = before h in grind (arith, ints)) t
range_ends bound key (Int n) x y gv gx gy h l before after t = no_keys ends_at Down ends_down bound _ _ (nearer gv gx gy l) t
range_ends bound key v x y gv gx gy h l before after t = no_keys ends_at Down ends_down bound _ _ (nearer gv gx gy l) t

-- ---- the same over sort keys

then_nothing : (o : Ordering) → ordering_then o Equal ≡ o
then_nothing Less = refl
then_nothing Equal = refl
then_nothing Greater = refl

one_key : (item : SortColumn) (a b : Row) → compare_keys (item ∷ []) a b ≡ compare item.key (column_of a item.column) (column_of b item.column)
one_key item a b = then_nothing (compare item.key (column_of a item.column) (column_of b item.column))

keys_start : (bound : Bound) (items : List SortColumn) (r x y : Row) (gr gx gy : ℕ) → is_gt (compare_keys items x y) ≡ false → gx ≤ gy → (is_gt (compare_keys items r y) ≡ false → gr ≤ gy) → (compare_keys items x r ≡ Less → gx < gr)
    → range_asks starts_at bound (key_distance items r x) (pos gx -ℤ pos gr) ≡ true → range_asks starts_at bound (key_distance items r y) (pos gy -ℤ pos gr) ≡ true
keys_start bound [] r x y gr gx gy h l after before t = no_keys starts_at Up starts_up bound _ _ (nearer gr gx gy l) t
keys_start bound (item ∷ []) r x y gr gx gy h l after before t =
    range_starts bound item.key (column_of r item.column) (column_of x item.column) (column_of y item.column) gr gx gy (ap is_gt (sym (one_key item x y)) ∙ h) l (λ k. after (ap is_gt (one_key item r y) ∙ k)) (λ k. before (one_key item x r ∙ k)) t
keys_start bound (item ∷ other ∷ items) r x y gr gx gy h l after before t = no_keys starts_at Up starts_up bound _ _ (nearer gr gx gy l) t

keys_end : (bound : Bound) (items : List SortColumn) (r x y : Row) (gr gx gy : ℕ) → is_gt (compare_keys items x y) ≡ false → gx ≤ gy → (is_gt (compare_keys items x r) ≡ false → gx ≤ gr) → (compare_keys items r y ≡ Less → gr < gy)
    → range_asks ends_at bound (key_distance items r y) (pos gy -ℤ pos gr) ≡ true → range_asks ends_at bound (key_distance items r x) (pos gx -ℤ pos gr) ≡ true
keys_end bound [] r x y gr gx gy h l before after t = no_keys ends_at Down ends_down bound _ _ (nearer gr gx gy l) t
keys_end bound (item ∷ []) r x y gr gx gy h l before after t =
    range_ends bound item.key (column_of r item.column) (column_of x item.column) (column_of y item.column) gr gx gy (ap is_gt (sym (one_key item x y)) ∙ h) l (λ k. before (ap is_gt (one_key item x r) ∙ k)) (λ k. after (one_key item r y ∙ k)) t
keys_end bound (item ∷ other ∷ items) r x y gr gx gy h l before after t = no_keys ends_at Down ends_down bound _ _ (nearer gr gx gy l) t

-- ---- along a sorted list

later : {X : Type 0} (R : X → X → Type 0) (x d : X) (xs : List X) (j : ℕ) → AllByRecursion (R x) xs → j < length xs → R x (get_or xs j d)
later R x d [] j a l = absurd (omega arith)
later R x d (y ∷ xs) zero a l = a.0
later R x d (y ∷ xs) (suc j) a l = later R x d xs j a.1 (omega arith)

rising_at : {X : Type 0} (R : X → X → Type 0) (d : X) (xs : List X) (i j : ℕ) → Rising R xs → i < j → j < length xs → R (get_or xs i d) (get_or xs j d)
rising_at R d [] i j h l k = absurd (omega arith)
rising_at R d (x ∷ xs) zero zero h l k = absurd (omega arith)
rising_at R d (x ∷ xs) zero (suc j) h l k = later R x d xs j h.0 (omega arith)
rising_at R d (x ∷ xs) (suc i) zero h l k = absurd (omega arith)
rising_at R d (x ∷ xs) (suc i) (suc j) h l k = rising_at R d xs i j h.1 (omega arith) (omega arith)

module _ (class : ClassRule) (rows : List Row) where
  abbrev row : ℕ → Row
  row i = row_at rows i

  abbrev group : ℕ → ℕ
  group i = group_of class rows (row_at rows i)

  -- groups do not fall where keys do not
  groups_by : (i j : ℕ) → i < length rows → (o : Ordering) → compare_keys class.order (row i) (row j) ≡ o → NotAfter class (row i) (row j) → group i ≤ group j
  groups_by i j l Less e h = let g = group-lt class rows i (row i) (row j) l refl e in omega arith
  groups_by i j l Equal e h = let g = tied_group class rows (row i) (row j) e in omega arith
  groups_by i j l Greater e h = absurd (let k : is_gt (compare_keys class.order (row i) (row j)) ≡ true = ap is_gt e in cc)

  groups_rise : (i j : ℕ) → i < length rows → NotAfter class (row i) (row j) → group i ≤ group j
  groups_rise i j l h = groups_by i j l (compare_keys class.order (row i) (row j)) refl h

  -- from the member at place m to that at place i
  abbrev distances : ℕ → ℕ → Distances
  distances m i = record { places = pos i -ℤ pos m; groups = pos (group i) -ℤ pos (group m); keys = key_distance class.order (row m) (row i) }

  start_holds : (by : FrameMode) (bound : Bound) (m i j : ℕ) → m < length rows → i < j → j < length rows → NotAfter class (row i) (row j) → bound_asks by starts_at bound (distances m i) ≡ true → bound_asks by starts_at bound (distances m j) ≡ true
  start_holds mode.Rows bound m i j k l n h t = starts_up bound _ _ (nearer m i j (omega arith)) t
  start_holds mode.Groups bound m i j k l n h t = starts_up bound _ _ (nearer (group m) (group i) (group j) (groups_rise i j (omega arith) h)) t
  start_holds mode.Range bound m i j k l n h t =
      keys_start bound class.order (row m) (row i) (row j) (group m) (group i) (group j) h (groups_rise i j (omega arith) h) (λ g. groups_rise m j k g) (λ e. group-lt class rows i (row i) (row m) (omega arith) refl e) t

  end_holds : (by : FrameMode) (bound : Bound) (m i j : ℕ) → m < length rows → i < j → j < length rows → NotAfter class (row i) (row j) → bound_asks by ends_at bound (distances m j) ≡ true → bound_asks by ends_at bound (distances m i) ≡ true
  end_holds mode.Rows bound m i j k l n h t = ends_down bound _ _ (nearer m i j (omega arith)) t
  end_holds mode.Groups bound m i j k l n h t = ends_down bound _ _ (nearer (group m) (group i) (group j) (groups_rise i j (omega arith) h)) t
  end_holds mode.Range bound m i j k l n h t =
      keys_end bound class.order (row m) (row i) (row j) (group m) (group i) (group j) h (groups_rise i j (omega arith) h) (λ g. groups_rise i m (omega arith) g) (λ e. group-lt class rows m (row m) (row j) k refl e) t

  no_end : (by : FrameMode) (bound : Bound) (d : Distances) → bound ≡ UnboundedFollowing → bound_asks by ends_at bound d ≡ true
  no_end mode.Rows bound d e = ap (λ b. ends_at b d.places) e
  no_end mode.Groups bound d e = ap (λ b. ends_at b d.groups) e
  no_end mode.Range bound d e = ap (λ b. range_asks ends_at b d.keys d.groups) e

  no_start : (by : FrameMode) (bound : Bound) (d : Distances) → bound ≡ UnboundedPreceding → bound_asks by starts_at bound d ≡ true
  no_start mode.Rows bound d e = ap (λ b. starts_at b d.places) e
  no_start mode.Groups bound d e = ap (λ b. starts_at b d.groups) e
  no_start mode.Range bound d e = ap (λ b. range_asks starts_at b d.keys d.groups) e

  module _ (frame : Frame) (m : ℕ) (none : frame.exclusion ≡ NoOthers) (within : m < length rows) where
    -- the start holds at place i, and the end
    abbrev Started : ℕ → Type 0
    Started i = bound_asks frame.mode starts_at frame.start (distances m i) ≡ true

    abbrev NotEnded : ℕ → Type 0
    NotEnded i = bound_asks frame.mode ends_at frame.end (distances m i) ≡ true

    taken : (i : ℕ) → Started i → NotEnded i → frame_takes class frame rows m i ≡ true
    taken i starts ends = λ n. (starts n && ends n) && is_kept (none n) (nat_eq m i) (nat_eq (group m) (group i))

    started : (i : ℕ) → frame_takes class frame rows m i ≡ true → Started i
    started i t = (and_parts _ _ (and_parts _ _ t).0).0

    not_ended : (i : ℕ) → frame_takes class frame rows m i ≡ true → NotEnded i
    not_ended i t = (and_parts _ _ (and_parts _ _ t).0).1

    module _ (rising : Rising (NotAfter class) rows) where
      start_on : (i j : ℕ) → i < j → j < length rows → frame_takes class frame rows m i ≡ true → Started j
      start_on i j a b t = start_holds frame.mode frame.start m i j within a b (rising_at (NotAfter class) [] rows i j rising a b) (started i t)

      end_back : (i j : ℕ) → i < j → j < length rows → frame_takes class frame rows m j ≡ true → NotEnded i
      end_back i j a b t = end_holds frame.mode frame.end m i j within a b (rising_at (NotAfter class) [] rows i j rising a b) (not_ended j t)

      no_gap : (i j k : ℕ) → i < j → j < k → k < length rows → frame_takes class frame rows m i ≡ true → frame_takes class frame rows m k ≡ true → frame_takes class frame rows m j ≡ true
      no_gap i j k a b c t u = taken j (start_on i j a (omega arith) t) (end_back j k b c u)

      contiguous : IsContiguous class frame rows m
      contiguous = record {
        between = no_gap;
        following = λ e i j a b t. taken j (start_on i j a b t) (no_end frame.mode frame.end (distances m j) e);
        before = λ e i j a b t. taken i (no_start frame.mode frame.start (distances m i) e) (end_back i j a b t);
        range = (
            let at = λ (i : ℕ) (q : Row). in_frame class frame (group_of class rows) m (row_at rows m) i q in
            range_passes at [] 0 rows (λ i j k a b c t u. ap (λ n. at n (row_at rows j)) (omega arith) ∙ no_gap i j k a b c (ap (λ n. at n (row_at rows i)) (omega arith) ∙ t) (ap (λ n. at n (row_at rows k)) (omega arith) ∙ u)));
      }

pub frames_are_contiguous : FramesAreContiguous
frames_are_contiguous class frame rows ordering p m lawful none within =
    let list = partition_of class rows ordering p in
    let rising : Rising (NotAfter class) list = subst (Rising (NotAfter class)) (sym (partition_of-is class rows ordering p)) (rising_part class (row_at rows p) (ordered rows ordering) lawful.in_order) in
    contiguous class list frame m none within rising
