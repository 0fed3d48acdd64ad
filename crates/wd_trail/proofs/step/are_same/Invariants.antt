use Rattle.std.proofs.Common.{◌≡◌, ℕ, ◌<◌}
use Rattle.wd_value.specs.Rows.{row_at}
use Rattle.wd_trail.proofs.step.are_same.Given as goal

abbrev pub invariant-loop-position : goal.invariant-loop-position
invariant-loop-position l = (p : ℕ) → p < l.position → row_at l.rows p ≡ row_at l.others p
