use Rattle.std.proofs.Common.{◌≡◌, map}
use Rattle.wd_eval.specs.Beside.{values_of, with_columns}
use Rattle.wd_eval.proofs.calls.with_columns.Given as goal

abbrev pub invariant-loop-column : goal.invariant-loop-column
invariant-loop-column l = l.extended ≡ with_columns l.fn.rows (map values_of l.yielded)
