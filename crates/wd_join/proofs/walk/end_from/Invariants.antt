use Rattle.std.proofs.Common.{◌≤◌, length}
use Rattle.wd_value.specs.Rows.{row_at}
use Rattle.wd_join.specs.Matching.{AreBefore}
use Rattle.wd_join.proofs.walk.end_from.Given as goal

abbrev pub invariant-loop-i : goal.invariant-loop-i
invariant-loop-i l = (l.from ≤ l.i) × (l.i ≤ length l.order) × AreBefore l.too l.columns (row_at l.left l.position) l.right l.order l.i
