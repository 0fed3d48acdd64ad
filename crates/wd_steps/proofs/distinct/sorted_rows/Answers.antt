use Rattle.std.proofs.Common.{◌≡◌, ◌∙◌, map, subst}
use Rattle.wd_value.specs.Bags.{positions}
use Rattle.wd_value.specs.Keys.{ascending}
use Rattle.wd_sort.specs.Sorting.{IsSortOf}
use Rattle.wd_steps.proofs.Occurrences.{row_sort}
use Rattle.wd_steps.proofs.distinct.sorted_rows.Goals as goal

pub returns-in_ok-order : goal.returns-in_ok-order
returns-in_ok-order c =
    let rows = c.args.rows.now in
    let width = c.width-width.result in
    let order = c.in_ok-order.order.items in
    let columns : c.deref.result.now ≡ map ascending (positions width) = c.deref.ensures.value ∙ c.in_ok-columns.ensures in
    row_sort rows width order (c.have_width.ensures c.if-have_width.true) (subst (λ cs. IsSortOf cs rows order) columns c.in_ok-order.ensures)
