use Rattle.std.proofs.Common.{flat_map, map, option_to_list, take}
use Rattle.wd_plan.specs.Plans.{group_call_of}
use Rattle.wd_simpler.specs.Sets.{HasAlso}
use Rattle.wd_simpler.specs.Simpler.{group_argument}
use Rattle.wd_simpler.proofs.columns.add_group_arguments.Given as goal

abbrev pub invariant-loop-call : goal.invariant-loop-call
invariant-loop-call l = HasAlso l.initial.set (flat_map (λ call. option_to_list (group_argument call)) (take l.call-index (map group_call_of l.calls))) l.set
