use Rattle.std.proofs.Common.{◌≡◌, ℕ, ◌<◌}
use Rattle.wd_value.specs.Rows.{column_of, row_at}
use Rattle.wd_trail.proofs.step.same_at.Given as goal

abbrev pub invariant-loop-column : goal.invariant-loop-column
invariant-loop-column l = (c : ℕ) → c < l.column → column_of (row_at l.rows l.position) c ≡ column_of (row_at l.others l.position) c
