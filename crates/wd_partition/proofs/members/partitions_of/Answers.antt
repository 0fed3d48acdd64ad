use Rattle.std.proofs.Common.{◌≡◌, ◌∙◌, sym, subst, rules, length, map}
use Rattle.wd_value.specs.Bags.{EachOnce}
use Rattle.wd_value.specs.Rows.{rows_at}
use Rattle.wd_sort.specs.Sorting.{compare_rows_at}
use Rattle.wd_partition.specs.Columns.{class_by, partition_columns}
use Rattle.wd_partition.specs.Members.{AreWithin, key_numbers, member_at, own_group}
use Rattle.wd_partition.specs.Places.{ArePlaces}
use Rattle.wd_partition.specs.Runs.{ends_at, starts_at}
use Rattle.wd_partition.proofs.Assembly.{view_is, within_is}
use Rattle.wd_partition.proofs.Marks.{length_once, short_once}
use Rattle.wd_partition.proofs.Numbering.{end, start}
use Rattle.wd_partition.proofs.members.partitions_of.Goals as goal

pub places_of-requires-clause-once : goal.places_of-requires-clause-once
places_of-requires-clause-once c =
    let s = c.args.grouped.positions.items in
    let is : c.deref-3.result.now ≡ s = search rules in
    let long : length c.args.rows.now ≡ length s = sym (length_once (length c.args.rows.now) s c.requires.lawful.lawful.once) in
    subst (λ l. EachOnce (length l) l) (sym is) (subst (λ n. EachOnce n s) long c.requires.lawful.lawful.once)

pub partition_starts-requires-clause-short : goal.partition_starts-requires-clause-short
partition_starts-requires-clause-short c = short_once (length c.args.rows.now) c.args.grouped.positions.items c.deref.result.now c.requires.short c.requires.lawful.lawful.once (search rules)

pub partition_ends-requires-clause-short : goal.partition_ends-requires-clause-short
partition_ends-requires-clause-short c = short_once (length c.args.rows.now) c.args.grouped.positions.items c.deref.result.now c.requires.short c.requires.lawful.lawful.once (search rules)

pub places_of-requires-clause-short : goal.places_of-requires-clause-short
places_of-requires-clause-short c = short_once (length c.args.rows.now) c.args.grouped.positions.items c.deref-3.result.now c.requires.short c.requires.lawful.lawful.once (search rules)

pub group_numbers-requires-clause-short : goal.group_numbers-requires-clause-short
group_numbers-requires-clause-short c = short_once (length c.args.rows.now) c.args.grouped.positions.items c.deref.result.now c.requires.short c.requires.lawful.lawful.once (search rules)

pub invariant_of-result : goal.invariant_of-result
invariant_of-result c =
    let rows = c.args.rows.now in
    let class = class_by c.args.partition.now c.args.keys.now in
    let s = c.args.grouped.positions.items in
    let starts = c.in_ok-starts.starts.items in
    let ends = c.in_ok-ends.ends.items in
    let places = c.in_ok-places.places.items in
    let shown : c.deref.result.now ≡ s = search rules in
    let third : c.deref-3.result.now ≡ s = search rules in
    let fourth : c.deref-4.result.now ≡ starts = search rules in
    let fifth : c.deref-5.result.now ≡ ends = search rules in
    let sixth : c.deref-6.result.now ≡ s = search rules in
    let starts_are : starts ≡ map (start class rows s c.requires.lawful) s = c.in_ok-starts.ensures ∙ (λ j. map (starts_at (compare_rows_at (partition_columns c.args.partition.now) rows) (shown j)) (shown j)) in
    let ends_are : ends ≡ map (end class rows s c.requires.lawful) s = c.in_ok-ends.ensures ∙ (λ j. map (ends_at (compare_rows_at (partition_columns c.args.partition.now) rows) (shown j)) (shown j)) in
    let groups_are : c.in_ok-groups.groups.items ≡ map (own_group class rows s) s = c.in_ok-groups.ensures ∙ (λ j. map (own_group class rows (shown j)) (shown j)) in
    let numbers_are : c.in_ok-numbers.numbers.items ≡ key_numbers c.args.asked class.order (rows_at rows s) = c.in_ok-numbers.ensures ∙ (λ j. key_numbers c.args.asked class.order (rows_at rows (sixth j))) in
    let are : ArePlaces s starts ends (length s) places =
    subst (λ l. ArePlaces l starts ends (length l) places) third
    (subst (λ l. ArePlaces c.deref-3.result.now l ends (length c.deref-3.result.now) places) fourth
    (subst (λ l. ArePlaces c.deref-3.result.now c.deref-4.result.now l (length c.deref-3.result.now) places) fifth c.in_ok-places.ensures)) in
    subst (λ l. AreWithin s l c.in_ok-numbers.numbers.items places) (sym groups_are)
    (subst (λ l. AreWithin s (map (own_group class rows s) s) l places) (sym numbers_are)
    (within_is class c.args.asked rows s c.requires.lawful starts ends places starts_are ends_are are))

pub returns : goal.returns
returns c =
    let rows = c.args.rows.now in
    let class = class_by c.args.partition.now c.args.keys.now in
    let s = c.args.grouped.positions.items in
    let starts = c.in_ok-starts.starts.items in
    let ends = c.in_ok-ends.ends.items in
    let places = c.in_ok-places.places.items in
    let shown : c.deref.result.now ≡ s = search rules in
    let third : c.deref-3.result.now ≡ s = search rules in
    let fourth : c.deref-4.result.now ≡ starts = search rules in
    let fifth : c.deref-5.result.now ≡ ends = search rules in
    let sixth : c.deref-6.result.now ≡ s = search rules in
    let starts_are : starts ≡ map (start class rows s c.requires.lawful) s = c.in_ok-starts.ensures ∙ (λ j. map (starts_at (compare_rows_at (partition_columns c.args.partition.now) rows) (shown j)) (shown j)) in
    let ends_are : ends ≡ map (end class rows s c.requires.lawful) s = c.in_ok-ends.ensures ∙ (λ j. map (ends_at (compare_rows_at (partition_columns c.args.partition.now) rows) (shown j)) (shown j)) in
    let groups_are : c.in_ok-groups.groups.items ≡ map (own_group class rows s) s = c.in_ok-groups.ensures ∙ (λ j. map (own_group class rows (shown j)) (shown j)) in
    let numbers_are : c.in_ok-numbers.numbers.items ≡ key_numbers c.args.asked class.order (rows_at rows s) = c.in_ok-numbers.ensures ∙ (λ j. key_numbers c.args.asked class.order (rows_at rows (sixth j))) in
    let are : ArePlaces s starts ends (length s) places =
    subst (λ l. ArePlaces l starts ends (length l) places) third
    (subst (λ l. ArePlaces c.deref-3.result.now l ends (length c.deref-3.result.now) places) fourth
    (subst (λ l. ArePlaces c.deref-3.result.now c.deref-4.result.now l (length c.deref-3.result.now) places) fifth c.in_ok-places.ensures)) in
    (λ j. map (member_at s (groups_are j) (numbers_are j)) places)
    ∙ view_is class c.args.asked rows s c.requires.lawful starts ends places starts_are ends_are are
