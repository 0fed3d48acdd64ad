use Rattle.std.proofs.Common.{◌≡◌, ap, rules, subst}
use Rattle.std.proofs.lemmas.Fn.{always_returns_same}
use Rattle.std.specs.Ordering.{is_lt}
use Rattle.wd_sort.specs.Sorting.{IsStableSortOf, compare_rows_at}
use Rattle.wd_sort.proofs.Order.{rows_order}
use Rattle.wd_sort.proofs.sort.sort_by_rows.Goals as goal

pub returns : goal.returns
returns c =
    let rows = c.args.rows.now in
    let columns = c.args.columns.now in
    let compares = always_returns_same _ _ _ (λ a r f h. let e : r ≡ compare_rows_at columns rows a.0.now a.1.0.now = search rules in (ap is_lt e, search rules)) in
    let given : c.in_ok-order.order.items ≡ c.args.positions.now = search rules in
    subst (λ l. IsStableSortOf columns rows l c.sort_by.new.self.items) given (record {
      rearranged = c.in_ok-sort_by.ensures.permutation;
      sorted = c.in_ok-sort_by.ensures.sorted (λ p q. is_lt (compare_rows_at columns rows p q)) (rows_order columns rows) compares;
      stable = c.in_ok-sort_by.ensures.stable (λ p q. is_lt (compare_rows_at columns rows p q)) (rows_order columns rows) compares;
    })
