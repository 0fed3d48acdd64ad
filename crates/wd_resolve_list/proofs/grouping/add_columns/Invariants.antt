use Rattle.std.proofs.Common.{◌≡◌, drop, nat_eq}
use Rattle.wd_resolve_list.specs.SelectLists.{with_new}
use Rattle.wd_resolve_list.proofs.grouping.add_columns.Given as goal

abbrev pub invariant-loop-number : goal.invariant-loop-number
invariant-loop-number l = with_new nat_eq l.columns.items (drop l.number-index l.more) ≡ with_new nat_eq l.initial.columns.items l.more
