use Rattle.std.proofs.Common.{◌≡◌, ◌++◌, map}
use Rattle.wd_resolve_operand.specs.BoundExpressions.{bound_expression_of, references}
use Rattle.wd_resolve_operand.specs.Mappings.{waiting, waiting_steps}
use Rattle.wd_resolve_operand.proofs.references.references_of.Given as goal

-- what was found, and then what waits
abbrev pub invariant-loop-part : goal.invariant-loop-part
invariant-loop-part g l = map (λ k. g.L.Reference.shown k.now) l.found.items ++ waiting g.L.Reference.shown l.pending.items ≡ references (bound_expression_of g.L.Reference.shown l.expression)

abbrev pub decreases-loop-part : goal.decreases-loop-part
decreases-loop-part g l = waiting_steps g.L.Reference.shown l.pending.items
