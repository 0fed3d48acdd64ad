use Rattle.std.proofs.Common.{◌++◌, take}
use Rattle.wd_value.specs.Rows.{row_at}
use Rattle.wd_plan.specs.Expressions.{expression_of}
use Rattle.wd_plan.specs.Outcomes.{pairs}
use Rattle.wd_join.specs.Joins.{AreKept}
use Rattle.wd_joined.specs.Pairs.{rows_paired}
use Rattle.wd_join.proofs.Joining.{pairs_with}
use Rattle.wd_join.proofs.join.pairs_where.Given as goal

abbrev pub invariant-loop-i : goal.invariant-loop-i
invariant-loop-i l = AreKept (expression_of l.condition) l.most (pairs (take l.i l.left) l.right) (rows_paired l.left l.right l.kept.pairs.items) l.kept.fault

abbrev pub invariant-loop-j : goal.invariant-loop-j
invariant-loop-j l = AreKept (expression_of l.condition) l.most (pairs (take l.i l.left) l.right ++ pairs_with (row_at l.left l.i) (take l.j l.right)) (rows_paired l.left l.right l.kept.pairs.items) l.kept.fault
