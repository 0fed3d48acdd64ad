use Rattle.std.proofs.Common.{◌≡◌, ◌++◌, take}
use Rattle.wd_value.specs.Rows.{row_at}
use Rattle.wd_plan.specs.Outcomes.{pairs}
use Rattle.wd_joined.specs.Pairs.{rows_paired}
use Rattle.wd_join.proofs.Joining.{pairs_with}
use Rattle.wd_join.proofs.paired.all_pairs.Given as goal

abbrev pub invariant-loop-first : goal.invariant-loop-first
invariant-loop-first l = rows_paired l.left l.right l.pairs.items ≡ pairs (take l.first l.left) l.right

abbrev pub invariant-loop-second : goal.invariant-loop-second
invariant-loop-second l = rows_paired l.left l.right l.pairs.items ≡ pairs (take l.first l.left) l.right ++ pairs_with (row_at l.left l.first) (take l.second l.right)
