use Rattle.std.proofs.Common.{◌≡◌, drop}
use Rattle.wd_step_facts.specs.Apart.{with_new}
use Rattle.wd_step_facts.proofs.apart.add_new.Given as goal

abbrev pub invariant-loop-column : goal.invariant-loop-column
invariant-loop-column l = with_new (drop l.column-index l.columns) l.list.items ≡ with_new l.columns l.initial.list.items
