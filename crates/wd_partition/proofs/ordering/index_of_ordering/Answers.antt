use Rattle.std.proofs.Common.{◌≡◌, ◌++◌, sym, subst, rules, length}
use Rattle.std.specs.Prelude.{IsSorted, IsTrue}
use Rattle.wd_value.specs.Bags.{EachOnce}
use Rattle.wd_sort.specs.Sorting.{IsStableSortOf, compare_rows_at}
use Rattle.wd_partition.specs.Columns.{class_by, partition_columns, sort_columns}
use Rattle.wd_partition.specs.Steps.{AreSteps}
use Rattle.wd_partition.proofs.Grouping.{AreGrouped-from_sorted, sorted_from_lawful}
use Rattle.wd_partition.proofs.ordering.index_of_ordering.Goals as goal

pub returns-then-not-branch : goal.returns-then-not-branch
returns-then-not-branch c =
    λ lawful. (
    let rows = c.args.rows.now in
    let once : EachOnce c.len.result c.args.ordering.now = subst (λ n. EachOnce n c.args.ordering.now) (sym c.len.ensures) lawful.once in
    let yes : IsTrue c.in_ok-has_each_once.field-0 = c.in_ok-has_each_once.ensures.1 once in
    search rules
    )

pub returns-in-None : goal.returns-in-None
returns-in-None c =
    λ lawful. (
    let rows = c.args.rows.now in
    let class = class_by c.args.partition.now c.args.keys.now in
    let grouped = c.in_ok-positions.positions.items in
    let sort : IsStableSortOf (partition_columns c.args.partition.now) rows c.args.ordering.now grouped = search rules in
    let sorted : IsSorted (compare_rows_at (sort_columns class) rows) grouped = sorted_from_lawful class rows c.args.ordering.now grouped lawful sort in
    let none = rw c.in-None.is at c.in_ok-steps_of.ensures in
    let columns : c.deref-2.result.now ≡ partition_columns c.args.partition.now = search rules in
    let list : c.deref-3.result.now ≡ grouped = search rules in
    none
    (subst (λ l. IsSorted (compare_rows_at (l ++ c.args.keys.now) rows) c.deref-3.result.now) (sym columns)
    (subst (IsSorted (compare_rows_at (sort_columns class) rows)) (sym list) sorted))
    )

pub returns : goal.returns
returns c =
    let rows = c.args.rows.now in
    let class = class_by c.args.partition.now c.args.keys.now in
    let grouped = c.in_ok-positions.positions.items in
    let yes : IsTrue c.in_ok-has_each_once.field-0 = search rules in
    let counted : EachOnce c.len.result c.args.ordering.now = c.in_ok-has_each_once.ensures.0 yes in
    let once : EachOnce (length rows) c.args.ordering.now = subst (λ n. EachOnce n c.args.ordering.now) c.len.ensures counted in
    let sort : IsStableSortOf (partition_columns c.args.partition.now) rows c.args.ordering.now grouped = search rules in
    let both : IsSorted (compare_rows_at (sort_columns class) rows) grouped × AreSteps (compare_rows_at (partition_columns c.args.partition.now) rows) (compare_rows_at c.args.keys.now rows) grouped c.in-Some.steps.items = search rules in
    (AreGrouped-from_sorted class rows c.args.ordering.now grouped once sort both.0, both.1)
