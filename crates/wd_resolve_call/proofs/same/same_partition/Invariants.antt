use Rattle.std.proofs.Common.{◌≡◌, drop, map}
use lib.Pointwise.{pointwise}
use Rattle.wd_resolve_call.specs.Rows.{row_expression_of, same_row_expression}
use Rattle.wd_resolve_call.proofs.same.same_partition.Given as goal

abbrev pub invariant-loop-i : goal.invariant-loop-i
invariant-loop-i l = pointwise same_row_expression (map row_expression_of (drop l.i l.a)) (map row_expression_of (drop l.i l.b)) ≡ pointwise same_row_expression (map row_expression_of l.a) (map row_expression_of l.b)
