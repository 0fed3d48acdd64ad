use Rattle.std.proofs.Common.{◌≡◌, drop, map}
use Rattle.wd_resolve_operand.specs.BoundExpressions.{references}
use Rattle.wd_resolve_call.specs.References.{bound_expression_of, reference_of}
use Rattle.wd_resolve_list.specs.SelectLists.{projected_shown, projected_with}
use Rattle.wd_resolve_list.proofs.projected.ProjectedInputs.add_references.Given as goal

abbrev pub invariant-loop-reference : goal.invariant-loop-reference
invariant-loop-reference l = projected_with (projected_shown l.self) (map (λ k. reference_of k.now) (drop l.reference-index l.reference-items)) ≡ projected_with (projected_shown l.initial.self) (references (bound_expression_of l.expression))
