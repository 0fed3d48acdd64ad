use Rattle.std.proofs.Common.{◌≡◌, drop}
use Rattle.wd_value.specs.Rows.{row_at}
use Rattle.wd_refute.specs.Ready.{compare_rows}
use Rattle.wd_refute.proofs.rows.compare_rows.Given as goal

abbrev pub invariant-loop-i : goal.invariant-loop-i
invariant-loop-i l = compare_rows (drop l.i (row_at l.first l.p)) (drop l.i (row_at l.second l.q)) ≡ compare_rows (row_at l.first l.p) (row_at l.second l.q)
