-- When two expressions are equal as resolved trees.
use Rattle.std.specs.Prelude.{Bool, false, ◌&&◌, nat_eq}
use Rattle.wd_value.specs.Values.{same}
use denote.Enum.Bare.{sameb}
use Rattle.wd_plan.specs.contracts.expression.ArithmeticOp.{the_type as operation}
use Rattle.wd_plan.specs.contracts.expression.ComparisonOp.{the_type as comparison}
use Rattle.wd_plan.specs.contracts.expression.Branch.{the_type as branches}
use Rattle.wd_plan.specs.Expressions.{Expression, Column, Literal, Negate, Arithmetic, Compare, Not, And, Or, IsNull, IsNotNull, Case}
use Rattle.wd_plan.specs.Fits.{same_kind}

-- equal trees; the kind of a literal counts, and a CASE within ELSE differs from a further branch
abbrev pub same_expression : Expression → Expression → Bool
same_expression (Column c) (Column d) = nat_eq c d
same_expression (Literal v kind) (Literal w other) = same v w && same_kind kind other
same_expression (Negate a) (Negate b) = same_expression a b
same_expression (Arithmetic op a b) (Arithmetic op' c d) = sameb operation op op' && (same_expression a c && same_expression b d)
same_expression (Compare op a b) (Compare op' c d) = sameb comparison op op' && (same_expression a c && same_expression b d)
same_expression (Not a) (Not b) = same_expression a b
same_expression (And a b) (And c d) = same_expression a c && same_expression b d
same_expression (Or a b) (Or c d) = same_expression a c && same_expression b d
same_expression (IsNull a) (IsNull b) = same_expression a b
same_expression (IsNotNull a) (IsNotNull b) = same_expression a b
same_expression (Case branch a b c) (Case other a' b' c') = sameb branches branch other && (same_expression a a' && (same_expression b b' && same_expression c c'))
same_expression a b = false
