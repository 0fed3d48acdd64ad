use Rattle.std.proofs.lemmas.Grind.{common_steps}
use Rattle.std.proofs.Common.{◌≡◌, ◌<◌, map, length, get_or, arith, ap, sym, ◌∙◌}
use Rattle.std.proofs.lemmas.List.{get_or-map, length-map}
use Rattle.wd_plan.specs.Expressions.{Expression, expression_of}
use Rattle.wd_step_facts.specs.Steps.{used}
use Rattle.wd_simpler.proofs.Sets.{also_more}
use Rattle.wd_simpler.proofs.columns.add_all_used.Goals as goal

pub loop-expression-preserved : goal.loop-expression-preserved
loop-expression-preserved c =
    let expressions = c.args.expressions.now in
    let i = c.loop-expression.expression-index in
    let item = c.expression-item.result in
    let e : Expression = expression_of item in
    let within : i < length expressions = omega arith in
    let is : e ≡ get_or (map expression_of expressions) i e = ap expression_of c.expression-item.is ∙ sym (get_or-map expression_of expressions i item e within) in
    also_more used c.args.set.now c.loop-expression.set c.add_used.new.set (map expression_of expressions) i e (simp length-map within) is c.loop-expression.invariant c.in_ok-add_used.ensures

pub returns : goal.returns
returns c = grind (arith, common_steps)
