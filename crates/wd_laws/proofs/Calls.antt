-- The value of a call at a row, under orderings of two row lists that are rearrangements of each other.
use Rattle.std.proofs.Common.{◌≡◌, ℕ, ◌+◌, ◌<◌, Bool, true, false, List, [], ◌∷◌, ◌++◌, map, length, get_or, refl, sym, ◌∙◌, ap, subst, arith, inl, inr, eqb, Ok}
use Rattle.std.specs.List.{AllByRecursion}
use Rattle.std.proofs.lemmas.List.{map-append, length-map, get_or-map}
use Rattle.wd_laws.proofs.Exchange.{below_filter}
use Rattle.wd_laws.proofs.Frames.{Perm-frame_rows, frame_rows_picked, picked, stable_test}
use Rattle.wd_plan.proofs.Places.{in_part, place_member}
use Rattle.wd_laws.proofs.Parts.{LooksBy, Member, NotAfter-alike, NotAfter-ties, Perm-ordered, class_columns_from, members_all, same_rows_at_places}
use Rattle.wd_plan.proofs.Parts.{NotAfter, ordered, part, partition_of-is, rising_part}
use Rattle.wd_laws.proofs.Peers.{peers_value}
use Rattle.wd_plan.proofs.Sorted.{Rising}
use Rattle.wd_laws.proofs.Sorted.{same_sorted}
use Rattle.wd_plan.specs.Calls.{call_value, column_values, taken, value_at}
use Rattle.wd_plan.specs.Facts.{Determines, DeterminesRow}
use Rattle.wd_plan.specs.Frames.{frame_of, is_stable}
use Rattle.wd_plan.specs.Settled.{IsByRow, IsByValues, is_by_peers}
use Rattle.wd_plan.specs.Partitions.{group_of, members, partition_of, place_in}
use Rattle.wd_plan.specs.Plans.{ClassRule}
use Rattle.wd_plan.specs.Sorting.{IsOrdering, class_columns, order_columns, same_partition}
use Rattle.wd_plan.specs.declared.function.FrameFunction.TheVariants.{ValueAt}
use Rattle.wd_plan.specs.declared.function.FrameRow.{FrameRow}
use Rattle.wd_plan.specs.declared.function.Function.{Function}
use Rattle.wd_plan.specs.declared.function.Function.TheVariants.{OfFrame}
use Rattle.wd_plan.specs.declared.window.Frame.{Frame}
use Rattle.wd_value.proofs.Perms.{Perm, Perm-filter, Perm-map, Perm-same, Perm-sym, SameBag-from_Perm, both}
use Rattle.wd_value.proofs.SameLaws.{same_row-Decides}
use Rattle.wd_value.specs.Bags.{EachOnce}
use Rattle.wd_value.specs.Rows.{Row, column_of, columns_of, row_at, same_row}

-- the partition lists of rows that are the same hold the same rows
pub Perm-parts : (class : ClassRule) (rows others : List Row) (o1 o2 : List ℕ) (p q : ℕ) → Perm Row rows others → EachOnce (length rows) o1 → EachOnce (length others) o2 → row_at rows p ≡ row_at others q → Perm Row (partition_of class rows o1 p) (partition_of class others o2 q)
Perm-parts class rows others o1 o2 p q perm once1 once2 e =
    let all : Perm Row (ordered rows o1) (ordered others o2) = both (Perm-sym (Perm-ordered rows o1 once1)) (both perm (Perm-ordered others o2 once2)) in
    both (Perm-same _ _ (partition_of-is class rows o1 p))
    (both (Perm-filter (same_partition class (row_at rows p)) all)
    (Perm-same _ _ (ap (λ x. part class x (ordered others o2)) e ∙ sym (partition_of-is class others o2 q))))

-- ---- `peers`

by_peers : (class : ClassRule) (frame : Frame) (function : Function) (rows others : List Row) (o1 o2 : List ℕ) (p q : ℕ) → is_by_peers frame function ≡ true → Perm Row rows others → EachOnce (length rows) o1 → EachOnce (length others) o2 → p < length rows → q < length others → row_at rows p ≡ row_at others q → value_at class frame function rows o1 p ≡ value_at class frame function others o2 q
by_peers class frame function rows others o1 o2 p q h perm once1 once2 k l e =
    let u = in_part class rows o1 p once1 k in
    let v = in_part class others o2 q once2 l in
    peers_value class frame function _ _ _ _ h (Perm-parts class rows others o1 o2 p q perm once1 once2 e) u.within_rows v.within_rows (u.row ∙ e ∙ sym v.row)

-- ---- `unique` and `exchange`

-- where rows that are the same on the class's columns are the same row, the partition lists are the same row for row
pub same_partition_rows : (class : ClassRule) (rows others : List Row) (o1 o2 : List ℕ) (p q : ℕ) → LooksBy class rows (λ r. r) → Perm Row rows others → IsOrdering class rows o1 → IsOrdering class others o2 → row_at rows p ≡ row_at others q → partition_of class rows o1 p ≡ partition_of class others o2 q
same_partition_rows class rows others o1 o2 p q looks perm v1 v2 e =
    partition_of-is class rows o1 p
    ∙ same_rows_at_places class rows looks (row_at rows p) (ordered rows o1) (ordered others o2) (Perm-ordered rows o1 v1.once) (both perm (Perm-ordered others o2 v2.once)) v1.in_order v2.in_order
    ∙ ap (λ x. part class x (ordered others o2)) e ∙ sym (partition_of-is class others o2 q)

pub unique_looks : (class : ClassRule) (rows : List Row) → DeterminesRow rows (class_columns class) → LooksBy class rows (λ r. r)
unique_looks class rows h a b m n e = sym m.2 ∙ ap (row_at rows) (h m.0 n.0 m.1 n.1 (ap (columns_of (class_columns class)) m.2 ∙ e ∙ sym (ap (columns_of (class_columns class)) n.2))) ∙ n.2

by_unique : (class : ClassRule) (frame : Frame) (function : Function) (rows others : List Row) (o1 o2 : List ℕ) (p q : ℕ) → DeterminesRow rows (class_columns class) → Perm Row rows others → IsOrdering class rows o1 → IsOrdering class others o2 → p < length rows → q < length others → row_at rows p ≡ row_at others q → value_at class frame function rows o1 p ≡ value_at class frame function others o2 q
by_unique class frame function rows others o1 o2 p q h perm v1 v2 k l e =
    let looks = unique_looks class rows h in
    let lists : partition_of class rows o1 p ≡ partition_of class others o2 q = same_partition_rows class rows others o1 o2 p q looks perm v1 v2 e in
    let v = in_part class others o2 q v2.once l in
    let j = place_in (members class others o2 q) q in
    let ms = members class rows o1 p in
    let in_first : j < length (partition_of class rows o1 p) = subst (λ (x : List Row). j < length x) (sym lists) v.within_rows in
    let in_members : j < length ms = subst (λ n. j < n) (length-map ms (row_at rows)) in_first in
    let there : row_at rows (get_or ms j 0) ≡ row_at rows p = sym (get_or-map (row_at rows) ms j 0 [] in_members) ∙ ap (λ (x : List Row). row_at x j) lists ∙ v.row ∙ sym e in
    let same_position : get_or ms j 0 ≡ p = h _ _ (below_filter rows o1 (λ q. same_partition class (row_at rows p) (row_at rows q)) j v1.once in_members) k (ap (columns_of (class_columns class)) there) in
    let places : place_in ms p ≡ j = ap (place_in ms) (sym same_position) ∙ place_member class rows o1 p j v1.once in_members in
    λ i. call_value class frame function (lists i) (places i)

-- ---- `values`

module _ {X : Type 0} (t : Bool → X → Bool) where
  all_picked_step : (P : X → Type 0) (n i : ℕ) (x : X) (xs : List X) (b : Bool) → t (eqb i n) x ≡ b → P x → AllByRecursion P (picked t (n + 1) i xs) → AllByRecursion P (picked t n i (x ∷ xs))
  all_picked_step P n i x xs true e p h = rw e (p, h)
  all_picked_step P n i x xs false e p h = rw e h

  all_picked : (P : X → Type 0) (n i : ℕ) (xs : List X) → AllByRecursion P xs → AllByRecursion P (picked t n i xs)
  all_picked P n i [] a = tt
  all_picked P n i (x ∷ xs) a = all_picked_step P n i x xs (t (eqb i n) x) refl a.0 (all_picked P (n + 1) i xs a.1)

  rising_picked_step : (R : X → X → Type 0) (n i : ℕ) (x : X) (xs : List X) (b : Bool) → t (eqb i n) x ≡ b → AllByRecursion (R x) (picked t (n + 1) i xs) → Rising R (picked t (n + 1) i xs) → Rising R (picked t n i (x ∷ xs))
  rising_picked_step R n i x xs true e p h = rw e (p, h)
  rising_picked_step R n i x xs false e p h = rw e h

  rising_picked : (R : X → X → Type 0) (n i : ℕ) (xs : List X) → Rising R xs → Rising R (picked t n i xs)
  rising_picked R n i [] a = tt
  rising_picked R n i (x ∷ xs) a = rising_picked_step R n i x xs (t (eqb i n) x) refl (all_picked (R x) (n + 1) i xs a.0) (rising_picked R (n + 1) i xs a.1)

append_parts : {X : Type 0} (as' bs cs ds : List X) → length as' ≡ length cs → as' ++ bs ≡ cs ++ ds → (as' ≡ cs) × (bs ≡ ds)
append_parts [] bs [] ds l e = (refl, e)
append_parts [] bs (c ∷ cs) ds l e = absurd (omega arith)
append_parts (a ∷ as') bs [] ds l e = absurd (omega arith)
append_parts (a ∷ as') bs (c ∷ cs) ds l e =
    let head : a ≡ c = cc in
    let tail : as' ++ bs ≡ cs ++ ds = cc in
    let r = append_parts as' bs cs ds (omega arith) tail in
    (λ i. head i ∷ r.0 i, r.1)

-- the same on the class's columns: the same on those of its order
pub order_columns_from : (class : ClassRule) (a b : Row) → columns_of (class_columns class) a ≡ columns_of (class_columns class) b → columns_of (order_columns class) a ≡ columns_of (order_columns class) b
order_columns_from class a b e =
    let split : columns_of class.partition a ++ columns_of (order_columns class) a ≡ columns_of class.partition b ++ columns_of (order_columns class) b = sym (map-append (column_of a) class.partition (order_columns class)) ∙ e ∙ map-append (column_of b) class.partition (order_columns class) in
    (append_parts (columns_of class.partition a) (columns_of (order_columns class) a) (columns_of class.partition b) (columns_of (order_columns class) b) (length-map class.partition (column_of a) ∙ sym (length-map class.partition (column_of b))) split).1

-- what a row shows: a column, and those of the order
abbrev shown : ClassRule → ℕ → Row → Row
shown class c r = column_of r c ∷ columns_of (order_columns class) r

first_shown : (class : ClassRule) (c : ℕ) (rs : List Row) → map (λ (v : Row). column_of v 0) (map (shown class c) rs) ≡ column_values c rs
first_shown class c [] = refl
first_shown class c (r ∷ rs) = ap (λ l. column_of r c ∷ l) (first_shown class c rs)

gives_looks : (class : ClassRule) (rows : List Row) (c : ℕ) → Determines rows (class_columns class) c → LooksBy class rows (shown class c)
gives_looks class rows c h a b m n e =
    let one : column_of a c ≡ column_of b c = ap (λ r. column_of r c) (sym m.2) ∙ h m.0 n.0 m.1 n.1 (ap (columns_of (class_columns class)) m.2 ∙ e ∙ sym (ap (columns_of (class_columns class)) n.2)) ∙ ap (λ r. column_of r c) n.2 in
    let others = order_columns_from class a b e in
    λ i. one i ∷ others i

-- the frames show the same values in order
pub same_values : (class : ClassRule) (frame : Frame) (c : ℕ) (rows others : List Row) (o1 o2 : List ℕ) (p q : ℕ) → is_stable frame ≡ true → Determines rows (class_columns class) c → Perm Row rows others → IsOrdering class rows o1 → IsOrdering class others o2 → p < length rows → q < length others → row_at rows p ≡ row_at others q →
    column_values c (frame_of class frame (partition_of class rows o1 p) (place_in (members class rows o1 p) p)) ≡ column_values c (frame_of class frame (partition_of class others o2 q) (place_in (members class others o2 q) q))
same_values class frame c rows others o1 o2 p q stable h perm v1 v2 k l e =
    let u = in_part class rows o1 p v1.once k in
    let v = in_part class others o2 q v2.once l in
    let i = place_in (members class rows o1 p) p in
    let j = place_in (members class others o2 q) q in
    let part1 = partition_of class rows o1 p in
    let part2 = partition_of class others o2 q in
    let look = shown class c in
    let x = row_at rows p in
    let is1 : part1 ≡ part class x (ordered rows o1) = partition_of-is class rows o1 p in
    let is2 : part2 ≡ part class x (ordered others o2) = partition_of-is class others o2 q ∙ ap (λ y. part class y (ordered others o2)) (sym e) in
    let frames : Perm Row (frame_of class frame part1 i) (frame_of class frame part2 j) = Perm-frame_rows class frame part1 part2 i j stable (Perm-parts class rows others o1 o2 p q perm v1.once v2.once e) u.within_rows v.within_rows (u.row ∙ e ∙ sym v.row) in
    let members1 : AllByRecursion (Member class rows x) part1 = subst (AllByRecursion (Member class rows x)) (sym is1) (members_all class rows x (ordered rows o1) (Perm-ordered rows o1 v1.once)) in
    let members2 : AllByRecursion (Member class rows x) part2 = subst (AllByRecursion (Member class rows x)) (sym is2) (members_all class rows x (ordered others o2) (both perm (Perm-ordered others o2 v2.once))) in
    let rising1 : Rising (NotAfter class) part1 = subst (Rising (NotAfter class)) (sym is1) (rising_part class x (ordered rows o1) v1.in_order) in
    let rising2 : Rising (NotAfter class) part2 = subst (Rising (NotAfter class)) (sym is2) (rising_part class x (ordered others o2) v2.in_order) in
    let t1 = stable_test class frame (group_of class part1) (row_at part1 i) in
    let t2 = stable_test class frame (group_of class part2) (row_at part2 j) in
    let f1 = frame_rows_picked class frame part1 i stable in
    let f2 = frame_rows_picked class frame part2 j stable in
    let looks = gives_looks class rows c h in
    let same_shown : map look (frame_of class frame part1 i) ≡ map look (frame_of class frame part2 j) =
    same_sorted same_row same_row-Decides look (Member class rows x) (NotAfter class)
    (λ a b m n g h'. looks a b m.0 n.0 (class_columns_from class a b (sym m.1 ∙ n.1) (NotAfter-ties class a b g h')))
    (λ a b z s h'. NotAfter-alike class a b z (let tail : columns_of (order_columns class) a ≡ columns_of (order_columns class) b = cc in tail) h')
    (frame_of class frame part1 i) (frame_of class frame part2 j)
    (subst (AllByRecursion (Member class rows x)) (sym f1) (all_picked t1 (Member class rows x) 0 i part1 members1))
    (subst (AllByRecursion (Member class rows x)) (sym f2) (all_picked t2 (Member class rows x) 0 j part2 members2))
    (subst (Rising (NotAfter class)) (sym f1) (rising_picked t1 (NotAfter class) 0 i part1 rising1))
    (subst (Rising (NotAfter class)) (sym f2) (rising_picked t2 (NotAfter class) 0 j part2 rising2))
    (SameBag-from_Perm same_row same_row-Decides (Perm-map look frames)) in
    sym (first_shown class c (frame_of class frame part1 i)) ∙ ap (map (λ (v : Row). column_of v 0)) same_shown ∙ first_shown class c (frame_of class frame part2 j)

-- and so the value at one row of the frame is the same
value_taken : (class : ClassRule) (frame : Frame) (c : ℕ) (function : Function) (row : FrameRow) (part other : List Row) (i j : ℕ) → function ≡ OfFrame (ValueAt row c) → column_values c (frame_of class frame part i) ≡ column_values c (frame_of class frame other j) → call_value class frame function part i ≡ call_value class frame function other j
value_taken class frame c function row part other i j e h = ap (λ f. call_value class frame f part i) e ∙ ap (λ vs. Ok (taken row vs)) h ∙ sym (ap (λ f. call_value class frame f other j) e)

by_values : (class : ClassRule) (frame : Frame) (function : Function) (c : ℕ) (rows others : List Row) (o1 o2 : List ℕ) (p q : ℕ) → IsByValues frame function c → Determines rows (class_columns class) c → Perm Row rows others → IsOrdering class rows o1 → IsOrdering class others o2 → p < length rows → q < length others → row_at rows p ≡ row_at others q → value_at class frame function rows o1 p ≡ value_at class frame function others o2 q
by_values class frame function c rows others o1 o2 p q h g perm v1 v2 k l e =
    value_taken class frame c function h.1 _ _ _ _ h.2 (same_values class frame c rows others o1 o2 p q h.0 g perm v1 v2 k l e)

-- ---- by the row

pub by_row : (class : ClassRule) (frame : Frame) (function : Function) (rows others : List Row) (o1 o2 : List ℕ) (p q : ℕ) → IsByRow class frame function rows → Perm Row rows others → IsOrdering class rows o1 → IsOrdering class others o2 → p < length rows → q < length others → row_at rows p ≡ row_at others q → value_at class frame function rows o1 p ≡ value_at class frame function others o2 q
by_row class frame function rows others o1 o2 p q (inl h) perm v1 v2 k l e = by_peers class frame function rows others o1 o2 p q h perm v1.once v2.once k l e
by_row class frame function rows others o1 o2 p q (inr (inl h)) perm v1 v2 k l e = by_unique class frame function rows others o1 o2 p q h perm v1 v2 k l e
by_row class frame function rows others o1 o2 p q (inr (inr h)) perm v1 v2 k l e = by_values class frame function h.0 rows others o1 o2 p q h.1 h.2 perm v1 v2 k l e
