-- What a call reads of the partitions of its class.
use Rattle.std.proofs.Common.{◌≡◌, ℕ, ◌<◌, Bool, true, List, [], ◌∷◌, map, length, get_or, Some, None, refl, sym, ap, ◌∙◌, subst, zero-add}
use Rattle.std.specs.Prelude.{slice_get, option_map}
use Rattle.std.proofs.lemmas.List.{get_or-map}
use Rattle.std.proofs.lemmas.List.FromFn.{get_or-range_with_len, length-range_with_len}
use Rattle.std.proofs.lemmas.Option.{slice_get-map, slice_get-get_or}
use Rattle.wd_value.specs.declared.value.Value.{Value}
use Rattle.wd_value.specs.declared.value.Value.TheVariants.{Null, Int, Text, Bool as Truth}
use Rattle.wd_value.specs.Bags.{positions}
use Rattle.wd_value.specs.Rows.{Row, column_of, row_at}
use Rattle.wd_value.specs.declared.order.SortColumn.{SortColumn}
use Rattle.wd_plan.specs.declared.window.Frame.{Frame}
use Rattle.wd_plan.specs.Frames.{key_distance, value_distance}
use Rattle.wd_plan.specs.Partitions.{partition_of}
use Rattle.wd_plan.specs.Plans.{ClassRule}
use Rattle.wd_plan.specs.Sorting.{IsOrdering}
use Rattle.wd_plan.proofs.GroupsRise.{peer_groups_rise}
use Rattle.wd_frame.specs.Laws.{is_descending}
use Rattle.wd_frame.specs.Places.{PartRule}
use Rattle.wd_partition.specs.Members.{MemberRule, key_numbers, member_of, members_of, number_part}
use Rattle.wd_calls.specs.Parts.{HasKeys, IsPartOf}
use Rattle.wd_eval.specs.ClassIndexes.{AreAskedBy}

-- whole numbers alone have a distance
number_distance : (desc : Bool) (a b : Value) → value_distance desc (number_part a) (number_part b) ≡ value_distance desc a b
number_distance desc (Int m) (Int n) = refl
number_distance desc (Int m) Null = refl
number_distance desc (Int m) (Text t) = refl
number_distance desc (Int m) (Truth t) = refl
number_distance desc Null b = refl
number_distance desc (Text t) b = refl
number_distance desc (Truth t) b = refl

module _ (partition : List Row) (p q : ℕ) (at_p : p < length partition) (at_q : q < length partition) where
  key_at : (item : SortColumn) (r : ℕ) → r < length partition → get_or (map (λ (row : Row). number_part (column_of row item.column)) partition) r Null ≡ number_part (column_of (row_at partition r) item.column)
  key_at item r h = get_or-map (λ (row : Row). number_part (column_of row item.column)) partition r [] Null h

  same_distance : (order : List SortColumn) → value_distance (is_descending order) (get_or (key_numbers true order partition) p Null) (get_or (key_numbers true order partition) q Null) ≡ key_distance order (row_at partition p) (row_at partition q)
  same_distance [] = refl
  same_distance (item ∷ []) =
      (λ i. value_distance item.key.desc (key_at item p at_p i) (key_at item q at_q i))
      ∙ number_distance item.key.desc (column_of (row_at partition p) item.column) (column_of (row_at partition q) item.column)
  same_distance (item ∷ other ∷ order) = refl

-- what a call reads of a member, with the direction of the class's key
abbrev pub part_by : MemberRule → Bool → PartRule
part_by member desc = record { groups = member.groups; keys = member.numbers; desc = desc }

-- the members of a row's partition are a partition list of the class, with keys if the frame needs them
pub own_part : (class : ClassRule) (frame : Frame) (asked : Bool) (rows : List Row) (ordering : List ℕ) (p : ℕ) → AreAskedBy frame asked → IsOrdering class rows ordering
    → IsPartOf class frame (partition_of class rows ordering p) (part_by (member_of class asked rows ordering p) (is_descending class.order))
own_part class frame asked rows ordering p needs lawful = record {
  groups = refl;
  rising = peer_groups_rise class rows ordering p lawful;
  keys = λ h. subst (λ (a : Bool). HasKeys class (partition_of class rows ordering p) (part_by (member_of class a rows ordering p) (is_descending class.order))) (sym (needs h))
      (λ a b at_a at_b. same_distance (partition_of class rows ordering p) a b at_a at_b class.order);
}

module _ (class : ClassRule) (asked : Bool) (rows : List Row) (ordering : List ℕ) (p : ℕ) (within : p < length rows) where
  own_member : slice_get (members_of class asked rows ordering) p ≡ Some (member_of class asked rows ordering p)
  own_member =
      let all = positions (length rows) in
      let long : p < length all = subst (λ n. p < n) (sym (length-range_with_len 0 (length rows))) within in
      let here : get_or all p 0 ≡ p = get_or-range_with_len 0 (length rows) p 0 within ∙ zero-add p in
      slice_get-map (member_of class asked rows ordering) all p
      ∙ ap (option_map (member_of class asked rows ordering)) (slice_get-get_or all p 0 long ∙ ap Some here)

  pub own_of : (member : MemberRule) → slice_get (members_of class asked rows ordering) p ≡ Some member → member ≡ member_of class asked rows ordering p
  own_of member there = (let e = own_member in cc)

-- past the last row there is no member
pub some_member : (class : ClassRule) (asked : Bool) (rows : List Row) (ordering : List ℕ) (p : ℕ) → p < length rows → slice_get (members_of class asked rows ordering) p ≡ None → ⊥
some_member class asked rows ordering p within none =
    let all = positions (length rows) in
    let long : p < length all = subst (λ n. p < n) (sym (length-range_with_len 0 (length rows))) within in
    let there = slice_get-map (member_of class asked rows ordering) all p ∙ ap (option_map (member_of class asked rows ordering)) (slice_get-get_or all p 0 long) in
    cc
