use Rattle.std.proofs.Common.{◌≡◌, ◌∙◌, ap, rules, subst, length, IsPermutation}
use Rattle.std.proofs.lemmas.Fn.{always_returns_same}
use Rattle.std.specs.Ordering.{is_lt}
use Rattle.wd_value.specs.Bags.{positions}
use Rattle.wd_refute.specs.Ready.{compare_rows_at}
use Rattle.wd_refute.proofs.RowOrder.{rows_order}
use Rattle.wd_refute.proofs.rows.row_order.Goals as goal

pub returns : goal.returns
returns c =
    let rows = c.args.rows.now in
    let all : c.in_ok-order.order.items ≡ positions (length rows) = c.in_ok-order.ensures ∙ ap positions c.len.ensures in
    let compares = always_returns_same _ _ _ (λ a r f h. let e : r ≡ compare_rows_at rows a.0.now a.1.0.now = search rules in (ap is_lt e, search rules)) in
    record {
      each_once = subst (λ l. IsPermutation l c.sort_by.new.self.items) all c.in_ok-sort_by.ensures.permutation;
      sorted = c.in_ok-sort_by.ensures.sorted (λ p q. is_lt (compare_rows_at rows p q)) (rows_order rows) compares;
    }
