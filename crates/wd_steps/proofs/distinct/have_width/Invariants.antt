use Rattle.std.proofs.Common.{◌≡◌, ℕ, ◌<◌, length}
use Rattle.wd_value.specs.Rows.{row_at}
use Rattle.wd_steps.proofs.distinct.have_width.Given as goal

abbrev pub invariant-loop-position : goal.invariant-loop-position
invariant-loop-position l = (p : ℕ) → p < l.position → length (row_at l.rows p) ≡ l.width
