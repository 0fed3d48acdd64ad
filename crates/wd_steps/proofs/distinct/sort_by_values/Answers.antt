use Rattle.std.proofs.Common.{◌≡◌, ◌∙◌, ap, length, rules, subst}
use Rattle.wd_value.specs.Bags.{positions}
use Rattle.wd_sort.specs.Sorting.{IsStableSortOf}
use Rattle.wd_sort.proofs.Order.{IsSortOf-from_stable}
use Rattle.wd_steps.proofs.distinct.sort_by_values.Goals as goal

pub returns : goal.returns
returns c =
    let rows = c.args.rows.now in
    let columns = c.args.columns.now in
    let all : c.in_ok-all.all.items ≡ positions (length rows) = c.in_ok-all.ensures ∙ ap positions c.len.ensures in
    IsSortOf-from_stable columns rows _ (subst (λ l. IsStableSortOf columns rows l c.in_ok-order.order.items) all (search rules))
