-- Two orderings of a class that gives every column: the same rows at the same places, and what is shown of them.
use Rattle.std.proofs.Common.{◌≡◌, ℕ, ◌+◌, ◌<◌, ◌≤◌, Bool, true, List, [], map, length, filter, get_or, sym, ◌∙◌, ap, arith, le_trans, ext_get_or, eqb, subst}
use Rattle.std.proofs.lemmas.Bool.Decides.{Decides-eqb}
use Rattle.std.proofs.lemmas.List.{length-map, get_or-map, map-id}
use Rattle.std.proofs.lemmas.List.FromFn.{get_or-range_with_len, length-range_with_len}
use Rattle.std.proofs.lemmas.List.Elements.{filter_passes, All-from_recursion}
use Rattle.wd_plan.proofs.Places.{in_part, same_members, stands_once, place-get_or, range-times, times-filter-le, times-get_or, same_shows}
use Rattle.wd_laws.proofs.Grouped.{Perm-from_matches}
use Rattle.wd_laws.proofs.Parts.{LooksBy, Perm-ordered, map_positions, same_rows_at_places}
use Rattle.wd_laws.proofs.Renaming.{map_map}
use Rattle.wd_plan.proofs.Parts.{Perm-ordering, map_filter, ordered, same_partition_is}
use Rattle.wd_plan.specs.Calls.{call_value}
use Rattle.wd_plan.specs.Facts.{DeterminesAll, HasWidth}
use Rattle.wd_laws.specs.Laws.{ExchangeRenames, SameResults, renamed, with_results}
use Rattle.wd_plan.specs.Partitions.{members, partition_of, place_in}
use Rattle.wd_plan.specs.Plans.{ClassRule}
use Rattle.wd_plan.specs.Sorting.{IsOrdering, class_columns, same_partition}
use Rattle.wd_value.proofs.Perms.{Perm, Perm-count_by, Perm-map, Perm-refl, Perm-sym, SameBag-from_Perm, both}
use Rattle.wd_value.proofs.SameLaws.{same_row-Decides}
use Rattle.wd_value.specs.Bags.{EachOnce, positions, times}
use Rattle.wd_value.specs.Rows.{Row, columns_of, row_at, rows_at, same_row}
use Rattle.wd_value.specs.declared.value.Value.TheVariants.{Null}

-- what stands in a filter of an ordering is a position
pub below_filter : (rows : List Row) (ordering : List ℕ) (t : ℕ → Bool) (i : ℕ) → EachOnce (length rows) ordering → i < length (filter t ordering) → get_or (filter t ordering) i 0 < length rows
below_filter rows ordering t i once h =
    let q = get_or (filter t ordering) i 0 in
    let a : 0 < times eqb q (filter t ordering) = times-get_or (filter t ordering) i 0 h in
    let b : times eqb q (filter t ordering) ≤ times eqb q ordering = times-filter-le eqb t q ordering in
    let c : times eqb q (positions (length rows)) ≡ times eqb q ordering = once q in
    let d = range-times q 0 (length rows) (omega arith) in
    omega arith

-- the class's columns give every column: rows that are the same on them are the same
pub gives_all_looks : (class : ClassRule) (rows : List Row) (width : ℕ) → HasWidth width rows → DeterminesAll rows width (class_columns class) → LooksBy class rows (λ r. r)
gives_all_looks class rows width wide h a b m n e =
    let at_p : length (row_at rows m.0) ≡ width = All-at m.0 m.1 in
    let at_q : length (row_at rows n.0) ≡ width = All-at n.0 n.1 in
    let key : columns_of (class_columns class) (row_at rows m.0) ≡ columns_of (class_columns class) (row_at rows n.0) = ap (columns_of (class_columns class)) m.2 ∙ e ∙ sym (ap (columns_of (class_columns class)) n.2) in
    let same : row_at rows m.0 ≡ row_at rows n.0 = ext_get_or Null (row_at rows m.0) (row_at rows n.0) (at_p ∙ sym at_q) (λ c l. h c (omega arith) m.0 n.0 m.1 n.1 key) in
    sym m.2 ∙ same ∙ n.2
  where
    All-at : (p : ℕ) → p < length rows → length (row_at rows p) ≡ width
    All-at p l = All-from_recursion (λ (r : Row). length r ≡ width) rows wide p [] l

-- ---- places of partitions

-- the positions of an ordering whose rows are in one partition with x
abbrev alike : ClassRule → Row → List Row → List ℕ → List ℕ
alike class x rows ordering = filter (λ q. same_partition class x (row_at rows q)) ordering

-- the one at place i among them is a position, of the same members, and its place is i
record AtPlace (class : ClassRule) (x : Row) (rows : List Row) (ordering : List ℕ) (i : ℕ) : Type 0 where
  position : get_or (alike class x rows ordering) i 0 < length rows
  among : members class rows ordering (get_or (alike class x rows ordering) i 0) ≡ alike class x rows ordering
  place : place_in (members class rows ordering (get_or (alike class x rows ordering) i 0)) (get_or (alike class x rows ordering) i 0) ≡ i

at_place : (class : ClassRule) (x : Row) (rows : List Row) (ordering : List ℕ) (i : ℕ) → EachOnce (length rows) ordering → i < length (alike class x rows ordering) → AtPlace class x rows ordering i
at_place class x rows ordering i once h =
    let t = λ (q : ℕ). same_partition class x (row_at rows q) in
    let us = alike class x rows ordering in
    let u = get_or us i 0 in
    let passes : same_partition class x (row_at rows u) ≡ true = filter_passes t ordering i 0 h in
    let ms : members class rows ordering u ≡ us = same_members class rows ordering x u (same_partition_is class x (row_at rows u) passes) in
    let at_i : place_in us u ≡ i = place-get_or us i 0 h (le_trans (times-filter-le eqb t u ordering) (stands_once rows ordering u once)) in
    record { position = below_filter rows ordering t i once h; among = ms; place = ap (λ m. place_in m u) ms ∙ at_i }

-- two positions hold the same row, at the same place of the same partition list
pub record SamePlace (class : ClassRule) (rows others : List Row) (o1 o2 : List ℕ) (u v : ℕ) : Type 0 where
  pub here : u < length rows
  pub there : v < length others
  pub row : row_at rows u ≡ row_at others v
  pub partition : partition_of class rows o1 u ≡ partition_of class others o2 v
  pub place : place_in (members class rows o1 u) u ≡ place_in (members class others o2 v) v

module _ (class : ClassRule) (rows others : List Row) (o1 o2 : List ℕ) (looks : LooksBy class rows (λ r. r)) (perm : Perm Row rows others) (v1 : IsOrdering class rows o1) (v2 : IsOrdering class others o2) where
  -- the same rows at each place of each partition
  same_places : (x : Row) → map (row_at rows) (alike class x rows o1) ≡ map (row_at others) (alike class x others o2)
  same_places x =
      map_filter (row_at rows) (same_partition class x) o1
      ∙ same_rows_at_places class rows looks x (ordered rows o1) (ordered others o2) (Perm-ordered rows o1 v1.once) (both perm (Perm-ordered others o2 v2.once)) v1.in_order v2.in_order
      ∙ sym (map_filter (row_at others) (same_partition class x) o2)

  same_place : (x : Row) (i : ℕ) → i < length (alike class x rows o1) → i < length (alike class x others o2) → SamePlace class rows others o1 o2 (get_or (alike class x rows o1) i 0) (get_or (alike class x others o2) i 0)
  same_place x i l m =
      let us = alike class x rows o1 in
      let vs = alike class x others o2 in
      let lists = same_places x in
      let a = at_place class x rows o1 i v1.once l in
      let b = at_place class x others o2 i v2.once m in
      record {
        here = a.position;
        there = b.position;
        row = sym (get_or-map (row_at rows) us i 0 [] l) ∙ ap (λ (rs : List Row). row_at rs i) lists ∙ get_or-map (row_at others) vs i 0 [] m;
        partition = ap (map (row_at rows)) a.among ∙ lists ∙ sym (ap (map (row_at others)) b.among);
        place = a.place ∙ sym b.place;
      }

  -- what is the same for two positions of the same place is shown equally often
  pub by_places : {Z : Type 0} (f g : ℕ → Z) → ((u v : ℕ) → SamePlace class rows others o1 o2 u v → f u ≡ g v) → Perm Z (map f (positions (length rows))) (map g (positions (length others)))
  by_places {Z} f g h =
      let matched : Perm Z (map f o1) (map g o2) = Perm-from_matches same_row same_row-Decides (columns_of class.partition) (row_at rows) (row_at others) f g o1 o2 (λ x.
      let us = alike class x rows o1 in
      let vs = alike class x others o2 in
      let long : length us ≡ length vs = sym (length-map us (row_at rows)) ∙ ap length (same_places x) ∙ length-map vs (row_at others) in
      same_shows f g us vs 0 0 long (λ i l. h (get_or us i 0) (get_or vs i 0) (same_place x i l (omega arith)))) in
      both (Perm-map f (Perm-ordering rows o1 v1.once)) (both matched (Perm-sym (Perm-map g (Perm-ordering others o2 v2.once))))

-- ---- the law

pub same_results : SameResults
same_results class calls width rows o1 o2 test wide h v1 v2 =
    Perm-count_by test (by_places class rows rows o1 o2 (gives_all_looks class rows width wide h) (Perm-refl rows) v1 v2 (with_results class calls rows o1) (with_results class calls rows o2)
    (λ u v s i. (s.row i, map (λ call. call_value class call.0 call.1 (s.partition i) (s.place i)) calls)))

-- ---- the renaming between two orderings

zero_plus : (k : ℕ) → 0 + k ≡ k
zero_plus k = omega arith

module _ (class : ClassRule) (rows : List Row) (o1 o2 : List ℕ) (looks : LooksBy class rows (λ r. r)) (v1 : IsOrdering class rows o1) (v2 : IsOrdering class rows o2) where
  -- what stands at the same place of the same partition in the second ordering
  abbrev counterpart : ℕ → ℕ
  counterpart q = get_or (members class rows o2 q) (place_in (members class rows o1 q) q) 0

  abbrev renaming : List ℕ
  renaming = map counterpart (positions (length rows))

  same_part : (q : ℕ) → map (row_at rows) (members class rows o1 q) ≡ map (row_at rows) (members class rows o2 q)
  same_part q = same_places class rows rows o1 o2 looks (Perm-refl rows) v1 v2 (row_at rows q)

  long : (q : ℕ) → length (members class rows o1 q) ≡ length (members class rows o2 q)
  long q = sym (length-map (members class rows o1 q) (row_at rows)) ∙ ap length (same_part q) ∙ length-map (members class rows o2 q) (row_at rows)

  -- the same row stands there
  row_kept : (q : ℕ) → q < length rows → row_at rows (counterpart q) ≡ row_at rows q
  row_kept q h =
      let i = place_in (members class rows o1 q) q in
      let part = in_part class rows o1 q v1.once h in
      sym (get_or-map (row_at rows) (members class rows o2 q) i 0 [] (subst (λ n. i < n) (long q) part.within))
      ∙ sym (ap (λ (rs : List Row). row_at rs i) (same_part q)) ∙ get_or-map (row_at rows) (members class rows o1 q) i 0 [] part.within ∙ ap (row_at rows) part.at_place

  -- a position is the counterpart of the one at its place
  met : (u v : ℕ) → SamePlace class rows rows o1 o2 u v → counterpart u ≡ v
  met u v s =
      let there : members class rows o2 u ≡ members class rows o2 v = ap (λ (r : Row). filter (λ q. same_partition class r (row_at rows q)) o2) s.row in
      ap (λ (ms : List ℕ). get_or ms (place_in (members class rows o1 u) u) 0) there ∙ ap (λ i. get_or (members class rows o2 v) i 0) s.place ∙ (in_part class rows o2 v v2.once s.there).at_place

  renaming_once : EachOnce (length rows) renaming
  renaming_once =
      let shown : map (λ (v : ℕ). v) (positions (length rows)) ≡ positions (length rows) = map-id (positions (length rows)) in
      let p : Perm ℕ renaming (positions (length rows)) = subst (Perm ℕ renaming) shown (by_places class rows rows o1 o2 looks (Perm-refl rows) v1 v2 counterpart (λ v. v) met) in
      SameBag-from_Perm eqb Decides-eqb (Perm-sym p)

  renaming_at : (q : ℕ) → q < length rows → renamed rows renaming q ≡ counterpart q
  renaming_at q h =
      let n : length (positions (length rows)) ≡ length rows = length-range_with_len 0 (length rows) in
      get_or-map counterpart (positions (length rows)) q 0 (length rows) (subst (λ k. q < k) (sym n) h) ∙ ap counterpart (get_or-range_with_len 0 (length rows) q 0 h ∙ omega arith)

  rows_kept : rows_at rows renaming ≡ rows
  rows_kept = map_map counterpart (row_at rows) (positions (length rows)) ∙ map_positions (λ q. row_at rows (counterpart q)) [] rows 0 (λ k l. ap (λ n. row_at rows (counterpart n)) (zero_plus k) ∙ row_kept k l)

  -- the partition of the first ordering is taken to that of the second
  part_renamed : (p : ℕ) → p < length rows → members class rows o2 p ≡ map (renamed rows renaming) (members class rows o1 p)
  part_renamed p h = sym (ext_get_or 0 (map (renamed rows renaming) (members class rows o1 p)) (members class rows o2 p) (length-map (members class rows o1 p) (renamed rows renaming) ∙ long p) (λ i l.
      let k : i < length (members class rows o1 p) = subst (λ n. i < n) (length-map (members class rows o1 p) (renamed rows renaming)) l in
      let s = same_place class rows rows o1 o2 looks (Perm-refl rows) v1 v2 (row_at rows p) i k (subst (λ n. i < n) (long p) k) in
      get_or-map (renamed rows renaming) (members class rows o1 p) i 0 0 k ∙ renaming_at (get_or (members class rows o1 p) i 0) s.here ∙ met _ _ s))

pub exchange_renames : ExchangeRenames
exchange_renames class width rows o1 o2 wide h v1 v2 =
    let looks = gives_all_looks class rows width wide h in (
      renaming class rows o1 o2 looks v1 v2,
      record { rearranged = record { once = renaming_once class rows o1 o2 looks v1 v2; shown = rows_kept class rows o1 o2 looks v1 v2 }; partition = part_renamed class rows o1 o2 looks v1 v2 },
    )
