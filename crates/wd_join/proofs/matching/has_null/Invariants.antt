use Rattle.std.proofs.Common.{◌≡◌, All, take, false}
use Rattle.wd_value.specs.Rows.{column_of}
use Rattle.wd_plan.specs.Expressions.{is_null}
use Rattle.wd_join.proofs.matching.has_null.Given as goal

abbrev pub invariant-loop-position : goal.invariant-loop-position
invariant-loop-position l = All (λ row. is_null (column_of row l.column) ≡ false) (take l.position l.rows)
