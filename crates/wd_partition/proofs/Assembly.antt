-- The ranges of the positions sorted by partition are the partitions of the ordering.
use Rattle.std.proofs.Common.{◌≡◌, ℕ, zero, suc, ◌-◌, ◌<◌, ◌≤◌, Bool, true, false, List, [], ◌∷◌, map, take, drop, get_or, length, refl, sym, ◌∙◌, ap, subst, arith}
use Rattle.std.proofs.lemmas.List.{drop-map, get_or-map, length-map, take-map}
use Rattle.std.proofs.lemmas.List.FromFn.{get_or-range_with_len, length-range_with_len}
use Rattle.std.proofs.lemmas.List.Sums.{count_by-le-length}
use Rattle.std.specs.Ordering.{is_gt}
use Rattle.std.specs.Prelude.{not}
use Rattle.wd_value.specs.declared.value.Value.{Value}
use Rattle.wd_value.specs.Bags.{positions}
use Rattle.wd_value.specs.Rows.{Row, column_of, row_at, rows_at}
use Rattle.wd_value.specs.declared.order.SortColumn.{SortColumn}
use Rattle.wd_plan.specs.Partitions.{group_of, members, partition_of, place_in}
use Rattle.wd_plan.specs.Plans.{ClassRule}
use Rattle.wd_plan.specs.Sorting.{same_partition}
use Rattle.wd_plan.proofs.Places as laws
use Rattle.wd_plan.proofs.Places.{same_shows, filter_passes_at}
use Rattle.wd_plan.proofs.Parts.{same_partition_is}
use Rattle.wd_partition.specs.declared.places.Place.{Place}
use Rattle.wd_partition.specs.Members.{ArePartitions, AreWithin, IsWithin, MemberRule, key_numbers, member_at, member_of, members_of, number_part, own_group}
use Rattle.wd_partition.specs.Orderings.{AreGrouped, IsGroupedOrdering}
use Rattle.wd_partition.specs.Places.{ArePlaces}
use Rattle.wd_partition.proofs.Grouping.{same_members}
use Rattle.wd_partition.proofs.Marks.{found_once, length_once}
use Rattle.wd_partition.proofs.Numbering.{by_partition, end, end_high, long_enough, member_here, members_range, start, start_low}

-- ---- ranges

take_none : {X : Type 0} (n : ℕ) → take {A = X} n [] ≡ []
take_none zero = refl
take_none (suc n) = refl

drop_none : {X : Type 0} (n : ℕ) → drop {A = X} n [] ≡ []
drop_none zero = refl
drop_none (suc n) = refl

no_range : {X : Type 0} (n a : ℕ) → take {A = X} n (drop a []) ≡ []
no_range {X} n a = ap (take {A = X} n) (drop_none a) ∙ take_none n

map_range : {X Y : Type 0} (f : X → Y) (n a : ℕ) (xs : List X) → take n (drop a (map f xs)) ≡ map f (take n (drop a xs))
map_range f n a xs = ap (take n) (drop-map f a xs) ∙ take-map f n (drop a xs)

numbers_range : (asked : Bool) (keys : List SortColumn) (n a : ℕ) (rows : List Row) → take n (drop a (key_numbers asked keys rows)) ≡ key_numbers asked keys (take n (drop a rows))
numbers_range true [] n a rows = no_range n a
numbers_range true (key ∷ []) n a rows = map_range (λ r. number_part (column_of r key.column)) n a rows
numbers_range true (key ∷ other ∷ keys) n a rows = no_range n a
numbers_range false keys n a rows = no_range n a

numbers_long : (asked : Bool) (keys : List SortColumn) (rows : List Row) → 0 < length (key_numbers asked keys rows) → length (key_numbers asked keys rows) ≡ length rows
numbers_long true [] rows h = absurd (omega arith)
numbers_long true (key ∷ []) rows h = length-map rows (λ r. number_part (column_of r key.column))
numbers_long true (key ∷ other ∷ keys) rows h = absurd (omega arith)
numbers_long false keys rows h = absurd (omega arith)

map_twice : {X Y Z : Type 0} (g : Y → Z) (f : X → Y) (xs : List X) → map (λ x. g (f x)) xs ≡ map g (map f xs)
map_twice g f [] = refl
map_twice g f (x ∷ xs) = ap (λ l. g (f x) ∷ l) (map_twice g f xs)

-- ---- one row

module _ (class : ClassRule) (asked : Bool) (rows : List Row) (s : List ℕ) (grouped : IsGroupedOrdering class rows s) where
  abbrev begin : ℕ → ℕ
  begin p = start class rows s grouped p

  abbrev finish : ℕ → ℕ
  finish p = end class rows s grouped p

  abbrev place_at : ℕ → Place
  place_at p = record { start = begin p; end = finish p; index = place_in s p }

  abbrev all_groups : List ℕ
  all_groups = map (own_group class rows s) s

  abbrev all_numbers : List Value
  all_numbers = key_numbers asked class.order (rows_at rows s)

  -- the members of a partition count their groups in it
  own_groups : (p : ℕ) → map (own_group class rows s) (members class rows s p) ≡ map (λ q. group_of class (partition_of class rows s p) (row_at rows q)) (members class rows s p)
  own_groups p =
      same_shows (own_group class rows s) (λ q. group_of class (partition_of class rows s p) (row_at rows q)) (members class rows s p) (members class rows s p) 0 0 refl
      (λ i within.
      let q = get_or (members class rows s p) i 0 in
      let passes : same_partition class (row_at rows p) (row_at rows q) ≡ true = filter_passes_at (λ q. same_partition class (row_at rows p) (row_at rows q)) s i 0 within in
      ap (λ (ms : List ℕ). group_of class (rows_at rows ms) (row_at rows q)) (laws.same_members class rows s (row_at rows p) q (same_partition_is class (row_at rows p) (row_at rows q) passes)))

  groups_range : (p : ℕ) → take (finish p - begin p) (drop (begin p) (map (own_group class rows s) s)) ≡ map (group_of class (partition_of class rows s p)) (partition_of class rows s p)
  groups_range p =
      map_range (own_group class rows s) (finish p - begin p) (begin p) s
      ∙ ap (map (own_group class rows s)) (sym (members_range class rows s grouped p))
      ∙ own_groups p
      ∙ map_twice (group_of class (partition_of class rows s p)) (row_at rows) (members class rows s p)

  key_range : (p : ℕ) → take (finish p - begin p) (drop (begin p) (key_numbers asked class.order (rows_at rows s))) ≡ key_numbers asked class.order (partition_of class rows s p)
  key_range p =
      numbers_range asked class.order (finish p - begin p) (begin p) (rows_at rows s)
      ∙ ap (key_numbers asked class.order) (map_range (row_at rows) (finish p - begin p) (begin p) s ∙ ap (rows_at rows) (sym (members_range class rows s grouped p)))

  begins_low : (p : ℕ) → p < length rows → begin p ≤ place_in s p
  begins_low p low =
      let found = found_once (length rows) s p grouped.lawful.once low in
      subst (λ q. begin q ≤ place_in s p) found.1 (start_low class rows s grouped (place_in s p) found.0)

  finish_high : (p : ℕ) → p < length rows → place_in s p < finish p
  finish_high p low =
      let found = found_once (length rows) s p grouped.lawful.once low in
      subst (λ q. place_in s p < finish q) found.1 (end_high class rows s grouped (place_in s p) found.0)

  own_place : (p : ℕ) → p < length rows → place_in s p - begin p ≡ place_in (members class rows s p) p
  own_place p low =
      let found = found_once (length rows) s p grouped.lawful.once low in
      let within = long_enough class rows s grouped p (place_in s p) found.0 (finish_high p low) (begins_low p low) in
      let here : get_or (members class rows s p) (place_in s p - begin p) 0 ≡ p = member_here class rows s grouped p (place_in s p) found.0 (finish_high p low) (begins_low p low) ∙ found.1 in
      sym (ap (place_in (members class rows s p)) (sym here) ∙ laws.place_member class rows s p (place_in s p - begin p) grouped.lawful.once within)

  member_is : (p : ℕ) → p < length rows → member_at s (map (own_group class rows s) s) (key_numbers asked class.order (rows_at rows s)) (place_at p) ≡ member_of class asked rows s p
  member_is p low = λ i. record {
    positions = sym (members_range class rows s grouped p) i;
    groups = groups_range p i;
    numbers = key_range p i;
    place = own_place p low i;
  }

  -- ---- all rows

  module _ (starts ends : List ℕ) (places : List Place) (starts_are : starts ≡ map (start class rows s grouped) s) (ends_are : ends ≡ map (end class rows s grouped) s) (are : ArePlaces s starts ends (length s) places) where
    long : length places ≡ length rows
    long = are.long ∙ length_once (length rows) s grouped.lawful.once

    at : (p : ℕ) (d : Place) → p < length rows → get_or places p d ≡ place_at p
    at p d low =
        let found = found_once (length rows) s p grouped.lawful.once low in
        let k = place_in s p in
        let first : get_or starts k 0 ≡ begin p = ap (λ (l : List ℕ). get_or l k 0) starts_are ∙ get_or-map (start class rows s grouped) s k 0 0 found.0 ∙ ap (start class rows s grouped) found.1 in
        let last : get_or ends k 0 ≡ finish p = ap (λ (l : List ℕ). get_or l k 0) ends_are ∙ get_or-map (end class rows s grouped) s k 0 0 found.0 ∙ ap (end class rows s grouped) found.1 in
        ap (λ q. get_or places q d) (sym found.1) ∙ are.each k d found.0 ∙ (λ i. record { start = first i; end = last i; index = k })

    none : Place
    none = record { start = 0; end = 0; index = 0 }

    pub view_is : map (member_at s (map (own_group class rows s) s) (key_numbers asked class.order (rows_at rows s))) places ≡ members_of class asked rows s
    view_is =
        same_shows (member_at s (map (own_group class rows s) s) (key_numbers asked class.order (rows_at rows s))) (member_of class asked rows s) places (positions (length rows)) none 0
        (long ∙ sym (length-range_with_len 0 (length rows)))
        (λ p within.
        let low : p < length rows = subst (λ n. p < n) long within in
        let same : p ≡ get_or (positions (length rows)) p 0 = sym (get_or-range_with_len 0 (length rows) p 0 low ∙ omega arith) in
        ap (member_at s (map (own_group class rows s) s) (key_numbers asked class.order (rows_at rows s))) (at p none low) ∙ member_is p low ∙ ap (member_of class asked rows s) same)

    pub within_is : AreWithin s (map (own_group class rows s) s) (key_numbers asked class.order (rows_at rows s)) places
    within_is = record {
      groups_long = length-map s (own_group class rows s);
      numbers_long = λ some. numbers_long asked class.order (rows_at rows s) some ∙ length-map s (row_at rows);
      each = λ p d within. (
          let low : p < length rows = subst (λ n. p < n) long within in
          subst (IsWithin (length s)) (sym (at p d low)) (record {
            starts = begins_low p low;
            ends = (let l = begins_low p low in let h = finish_high p low in omega arith);
            within = count_by-le-length (λ q. not (is_gt (by_partition class rows s grouped q p))) s;
          })
          );
    }

-- ---- an ordering and its positions by partition

members_alike : (class : ClassRule) (asked : Bool) (rows : List Row) (xs ys : List ℕ) → ((p : ℕ) → members class rows xs p ≡ members class rows ys p) → members_of class asked rows xs ≡ members_of class asked rows ys
members_alike class asked rows xs ys same =
    let of_members : ℕ → List ℕ → MemberRule = λ p ms. record {
      positions = ms;
      groups = map (group_of class (rows_at rows ms)) (rows_at rows ms);
      numbers = key_numbers asked class.order (rows_at rows ms);
      place = place_in ms p;
    } in
    λ i. map (λ p. of_members p (same p i)) (positions (length rows))

pub ArePartitions-from : (class : ClassRule) (asked : Bool) (rows : List Row) (ordering grouped : List ℕ) (found : List MemberRule) → AreGrouped class rows ordering grouped → found ≡ members_of class asked rows grouped → ArePartitions class asked rows ordering found
ArePartitions-from class asked rows ordering grouped found are is = record {
  lawful = are.lawful;
  each = is ∙ members_alike class asked rows grouped ordering (same_members class rows ordering grouped are.sorted);
}
