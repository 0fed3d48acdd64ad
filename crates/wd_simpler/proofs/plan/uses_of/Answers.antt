use Rattle.std.proofs.Common.{◌||◌, map, flat_map, ap, ◌∙◌}
use Rattle.wd_plan.specs.Expressions.{expression_of}
use Rattle.wd_plan.specs.Plans.{has}
use Rattle.wd_step_facts.specs.Steps.{used}
use Rattle.wd_step_facts.specs.declared.facts.Member.TheVariants.{Column}
use Rattle.wd_simpler.proofs.plan.uses_of.Goals as goal

pub returns : goal.returns
returns c = λ d. c.in_ok-add_all_used.ensures d ∙ ap (λ b. b || has (flat_map used (map expression_of c.args.outputs.now)) d) (c.new-set.ensures (Column d))
