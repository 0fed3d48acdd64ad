use Rattle.std.proofs.Common.{◌++◌, take}
use Rattle.wd_value.specs.Rows.{row_at, rows_at}
use Rattle.wd_plan.specs.Expressions.{expression_of}
use Rattle.wd_join.specs.Joins.{AreKept}
use Rattle.wd_join.specs.Matching.{matching}
use Rattle.wd_joined.specs.Pairs.{rows_paired}
use Rattle.wd_join.proofs.Joining.{pairs_with}
use Rattle.wd_join.proofs.join.matching_where.Given as goal

abbrev pub invariant-loop-i : goal.invariant-loop-i
invariant-loop-i l = AreKept (expression_of l.condition) l.most (matching l.columns (take l.i l.left) l.right) (rows_paired l.left l.right l.kept.pairs.items) l.kept.fault

abbrev pub invariant-loop-position : goal.invariant-loop-position
invariant-loop-position l = AreKept (expression_of l.condition) l.most (matching l.columns (take l.i l.left) l.right ++ pairs_with (row_at l.left l.i) (rows_at l.right (take l.position-index l.positions))) (rows_paired l.left l.right l.kept.pairs.items) l.kept.fault
