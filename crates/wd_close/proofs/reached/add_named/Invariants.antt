use Rattle.std.proofs.Common.{◌≡◌, drop}
use Rattle.wd_step_facts.specs.Facts.{columns_named}
use Rattle.wd_close.specs.Reached.{Mirrors}
use Rattle.wd_close.specs.Reached as spec
use Rattle.wd_close.proofs.reached.add_named.Given as goal

abbrev pub invariant-loop-column : goal.invariant-loop-column
invariant-loop-column l = Mirrors l.set l.queue.items × (spec.all_added l.queue.items (columns_named (drop l.column-index l.columns)) ≡ spec.all_added l.fn.queue.items (columns_named l.columns))
