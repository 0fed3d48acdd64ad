use Rattle.std.proofs.Common.{◌≡◌, ◌+◌}
use Rattle.std.specs.List.{sum_by}
use Rattle.wd_resolve_operand.specs.BoundExpressions.{bound_expression_of}
use Rattle.wd_resolve_operand.specs.Mappings.{all_closed, mapped, pending_steps, step_of, steps_left}
use Rattle.wd_resolve_operand.proofs.walk.make.Given as goal

-- what is still to be done with the step gives what is meant
abbrev pub invariant-loop-step : goal.invariant-loop-step
invariant-loop-step g l = all_closed g.M.Maker.read g.M.Maker.shown g.M.Maker.making (g.M.Maker.meaning l.maker) l.pending.items (step_of g.M.Maker.read g.M.Maker.shown g.M.Maker.making (g.M.Maker.meaning l.maker) l.step) ≡ mapped g.M.Maker.making (g.M.Maker.meaning l.maker) (bound_expression_of g.M.Maker.read l.expression)

abbrev pub decreases-loop-step : goal.decreases-loop-step
decreases-loop-step g l = sum_by (pending_steps g.M.Maker.read) l.pending.items + steps_left g.M.Maker.read l.step
