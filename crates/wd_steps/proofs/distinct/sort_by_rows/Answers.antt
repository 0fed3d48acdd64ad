use Rattle.std.proofs.Common.{◌≡◌, ap, rules}
use Rattle.std.proofs.lemmas.Fn.{always_returns_same}
use Rattle.std.specs.Ordering.{is_lt}
use Rattle.wd_steps.specs.Repeats.{compare_positions}
use Rattle.wd_steps.proofs.Occurrences.{positions_order}
use Rattle.wd_steps.proofs.distinct.sort_by_rows.Goals as goal

pub returns : goal.returns
returns c =
    let rows = c.args.rows.now in
    let compares = always_returns_same _ _ _ (λ a r f h. let e : r ≡ compare_positions rows a.0.now a.1.0.now = search rules in (ap is_lt e, search rules)) in
    record {
      each_once = rw (← c.len.ensures, ← c.in_ok-order.ensures) c.sort_unstable_by.ensures.permutation;
      sorted = c.sort_unstable_by.ensures.sorted (λ p q. is_lt (compare_positions rows p q)) (positions_order rows) compares;
    }
