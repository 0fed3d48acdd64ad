use Rattle.std.proofs.Common.{◌≡◌, ◌+◌, drop, length, take_while}
use Rattle.wd_value.specs.Rows.{row_at, rows_at}
use Rattle.wd_plan.specs.Outcomes.{peers}
use Rattle.wd_steps.proofs.limit.count_peers.Given as goal

abbrev pub invariant-loop-count : goal.invariant-loop-count
invariant-loop-count l = l.count + length (take_while (peers l.keys (row_at l.rows l.last)) (rows_at l.rows (drop l.count l.ordering))) ≡ length (take_while (peers l.keys (row_at l.rows l.last)) (rows_at l.rows l.ordering))
