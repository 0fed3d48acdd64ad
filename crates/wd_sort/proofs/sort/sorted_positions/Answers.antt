use Rattle.std.proofs.Common.{◌≡◌, ◌∙◌, ap, sym, subst, rules, length}
use Rattle.std.proofs.lemmas.List.{length-map}
use Rattle.wd_value.specs.Bags.{positions}
use Rattle.wd_value.specs.Rows.{rows_of}
use Rattle.wd_sort.specs.Sorting.{IsStableSortOf}
use Rattle.wd_sort.proofs.Order.{IsSortOf-from_stable}
use Rattle.wd_sort.proofs.sort.sorted_positions.Goals as goal

pub returns : goal.returns
returns c =
    let rows = rows_of c.args.rows.now in
    let columns = c.args.columns.now in
    let all : c.in_ok-all.all.items ≡ positions (length rows) = c.in_ok-all.ensures ∙ ap positions (sym (length-map c.args.rows.now (λ r. r.items))) in
    IsSortOf-from_stable columns rows _ (subst (λ l. IsStableSortOf columns rows l c.in_ok-order.order.items) all (search rules))
