use Rattle.std.proofs.Common.{◌≡◌, ◌∙◌, ap, length, subst, sym, rules}
use Rattle.wd_value.specs.Bags.{positions}
use Rattle.wd_sort.specs.Sorting.{IsSortOf, IsStableSortOf}
use Rattle.wd_sort.proofs.Order.{IsSortOf-from_stable}
use Rattle.wd_tables.specs.Keys.{AreInOrder}
use Rattle.wd_tables.proofs.KeyOrder.{in_order}
use Rattle.wd_tables.proofs.key.sorted_positions.Goals as goal

pub returns-then-are_in_order : goal.returns-then-are_in_order
returns-then-are_in_order c =
    let rows = c.args.rows.now in
    let columns = c.args.columns.now in
    let all : c.in_ok-all.all.items ≡ positions (length rows) = c.in_ok-all.ensures ∙ ap positions c.len.ensures in
    let here : AreInOrder columns rows = search rules in
    subst (IsSortOf columns rows) (sym all) (in_order columns rows here)

pub returns : goal.returns
returns c =
    let rows = c.args.rows.now in
    let columns = c.args.columns.now in
    let order = c.in_ok-order.order.items in
    let all : c.deref.result.now ≡ positions (length rows) = c.deref.ensures.value ∙ c.in_ok-all.ensures ∙ ap positions c.len.ensures in
    let here = subst (λ rs. IsStableSortOf columns rs c.deref.result.now order) c.of_columns-source.ensures c.in_ok-order.ensures in
    IsSortOf-from_stable columns rows order (subst (λ l. IsStableSortOf columns rows l order) all here)
