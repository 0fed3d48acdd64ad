use Rattle.std.proofs.Common.{◌||◌, map, flat_map, option_to_list, ap, subst, ◌∙◌}
use Rattle.wd_plan.specs.Plans.{group_call_of, grouping_of, has}
use Rattle.wd_step_facts.specs.declared.facts.Member.TheVariants.{Column}
use Rattle.wd_value.specs.Bags.{positions}
use Rattle.wd_simpler.proofs.Sets.{also_then}
use Rattle.wd_simpler.specs.Sets.{HasAlso}
use Rattle.wd_simpler.specs.Simpler.{group_argument, group_reads}
use Rattle.wd_simpler.proofs.plan.read_by_group.Goals as goal

pub returns : goal.returns
returns c =
    let group = c.args.group.now in
    let arguments = subst (λ l. HasAlso c.add_first.new.set (flat_map (λ call. option_to_list (group_argument call)) (map group_call_of l)) c.add_group_arguments.new.set) c.deref.ensures.value c.in_ok-add_group_arguments.ensures in
    let all = also_then c.new-set.result c.add_first.new.set c.add_group_arguments.new.set (positions group.columns) (flat_map (λ call. option_to_list (group_argument call)) (map group_call_of group.calls.items)) c.in_ok-add_first.ensures arguments in
    λ d. all d ∙ ap (λ b. b || has (group_reads (grouping_of group)) d) (c.new-set.ensures (Column d))
