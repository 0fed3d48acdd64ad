use Rattle.std.proofs.Common.{map, take}
use Rattle.wd_value.specs.Rows.{row_at, rows_at}
use Rattle.wd_plan.specs.Outcomes.{group_value, shown}
use Rattle.wd_plan.specs.Plans.{group_call_of}
use Rattle.wd_group.proofs.Calls.{IsRowSoFar}
use Rattle.wd_group.proofs.row.group_row.Given as goal

abbrev pub invariant-loop-call : goal.invariant-loop-call
invariant-loop-call l = IsRowSoFar (shown l.group.columns l.set (row_at l.rows l.position)) (map (group_value l.set (rows_at l.rows l.members)) (map group_call_of (take l.call-index l.group.calls.items))) l.row.items l.fault
