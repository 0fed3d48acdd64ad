-- What an expression of a query reads: a reference of the rows below windows, or a window call (SQL, value expression primary).
use Rattle.std.specs.Prelude.{Bool, false, List, map, Ok, Err}
use Rattle.std.specs.declared.alloc.Global.{Global}
use Rattle.std.specs.declared.vec.Vec.{Vec}
use Rattle.wd_plan.specs.Expressions.{Expression}
use Rattle.wd_resolve_operand.specs.declared.cause.Cause.TheVariants.{CallNotAllowed}
use Rattle.wd_resolve_operand.specs.declared.expression.BoundExpression.{BoundExpression as BoundExpressionCode}
use Rattle.wd_resolve_operand.specs.declared.operand.TypedOperand.{TypedOperand}
use Rattle.wd_resolve_operand.specs.declared.operator.CaseArm.{CaseArm}
use Rattle.wd_resolve_operand.specs.Causes.{Meant, ◌>>=◌}
use Rattle.wd_resolve_operand.specs.BoundExpressions as expressions
use Rattle.wd_resolve_operand.specs.BoundExpressions.{BoundExpression, over_references}
use Rattle.wd_resolve_operand.specs.Operands as operands
use Rattle.wd_resolve_operand.specs.Operands.{Operand}
use Rattle.wd_resolve_call.specs.declared.reference.SelectReference.{SelectReference as Code}
use Rattle.wd_resolve_call.specs.declared.reference.SelectReference.TheVariants as code
use Rattle.wd_resolve_call.specs.Rows.{RowExpression, RowReference, over_from, row_reference_of, same_row_reference}
use Rattle.wd_resolve_call.specs.Calls.{BoundCall, call_of, same_call}

pub data SelectReference : Type 0 where
  of_row : RowReference → SelectReference
  call : BoundCall → SelectReference

-- ---- what values of the code show

abbrev pub reference_of : Code → SelectReference
reference_of (code.Row l) = of_row (row_reference_of l)
reference_of (code.Call c) = call (call_of c.value)

abbrev pub bound_expression_of : BoundExpressionCode Code → BoundExpression SelectReference
bound_expression_of f = expressions.bound_expression_of reference_of f

abbrev pub operand_of : TypedOperand Code → Operand SelectReference
operand_of x = operands.operand_of reference_of x

abbrev pub operands_of : Vec (TypedOperand Code) Global → List (Operand SelectReference)
operands_of xs = map operand_of xs.items

abbrev pub arm_of : CaseArm Code → Operand SelectReference × Operand SelectReference
arm_of arm = operands.arm_of reference_of arm

-- equal references
abbrev pub same_reference : SelectReference → SelectReference → Bool
same_reference (of_row l) (of_row m) = same_row_reference l m
same_reference (call c) (call d) = same_call c d
same_reference a b = false

-- the references that are allowed below windows: any but window calls
abbrev pub below_windows : SelectReference → Meant RowReference
below_windows (of_row l) = Ok l
below_windows (call c) = Err CallNotAllowed

-- the expression over the rows below windows, if no window call is in it
abbrev pub over_rows : BoundExpression SelectReference → Meant RowExpression
over_rows f = over_references below_windows f

-- the expression over the columns of FROM alone
abbrev pub over_columns : BoundExpression SelectReference → Meant Expression
over_columns f = over_rows f >>= λ g. over_from g
