use Rattle.std.proofs.Common.{◌≤◌, ◌<◌, ℕ, length}
use Rattle.wd_value.specs.Rows.{row_at}
use Rattle.wd_nodes.proofs.selection.past_columns.Given as goal

abbrev pub invariant-loop-position : goal.invariant-loop-position
invariant-loop-position l = (k : ℕ) → k < l.position → length (row_at l.rows k) ≤ l.past
