use Rattle.std.proofs.Common.{◌≡◌, map, vec_len, Ok}
use Rattle.wd_plan.specs.declared.expression.Branch.TheVariants.{First}
use Rattle.wd_resolve_operand.specs.BoundExpressions.{bound_expression_of}
use Rattle.wd_resolve_operand.specs.Operands.{arm_of, arms_over}
use Rattle.wd_resolve_operand.proofs.operator.arms_over.Given as goal

abbrev pub invariant-loop-arm : goal.invariant-loop-arm
invariant-loop-arm g l = arms_over First l.kind (map (arm_of g.L.Reference.shown) l.arms.items) (Ok (bound_expression_of g.L.Reference.shown l.rest.value)) ≡ arms_over First l.kind (map (arm_of g.L.Reference.shown) l.initial.arms.items) (Ok (bound_expression_of g.L.Reference.shown l.initial.rest.value))

abbrev pub decreases-loop-arm : goal.decreases-loop-arm
decreases-loop-arm g l = vec_len l.arms
