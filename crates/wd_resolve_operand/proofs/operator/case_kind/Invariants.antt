use Rattle.std.proofs.Common.{◌≡◌, drop, map}
use Rattle.wd_resolve_operand.specs.Operands.{case_kind, arm_of, operand_of}
use Rattle.wd_resolve_operand.proofs.operator.case_kind.Given as goal

abbrev pub invariant-loop-arm : goal.invariant-loop-arm
invariant-loop-arm g l = case_kind (map (arm_of g.L.Reference.shown) (drop l.arm-index l.arms)) (operand_of g.L.Reference.shown l.other) ≡ case_kind (map (arm_of g.L.Reference.shown) l.arms) (operand_of g.L.Reference.shown l.other)
