use Rattle.std.proofs.Common.{◌≡◌, ◌++◌, drop}
use Rattle.wd_resolve_list.specs.Grouping.{numbers_from}
use Rattle.wd_resolve_select.proofs.steps.rebase_set.Given as goal

abbrev pub invariant-loop-number : goal.invariant-loop-number
invariant-loop-number l = l.numbers.items ++ numbers_from l.number (drop l.number l.columns) l.set ≡ numbers_from 0 l.columns l.set
