use Rattle.std.proofs.Common.{◌≡◌}
use Rattle.wd_close.specs.Closure.{columns_between}
use Rattle.wd_close.specs.Reached.{Mirrors}
use Rattle.wd_close.specs.Reached as spec
use Rattle.wd_close.proofs.reached.add_columns.Given as goal

abbrev pub invariant-loop-column : goal.invariant-loop-column
invariant-loop-column l = Mirrors l.set l.queue.items × (spec.all_added l.queue.items (columns_between l.column l.to) ≡ spec.all_added l.fn.queue.items (columns_between l.from l.to))
