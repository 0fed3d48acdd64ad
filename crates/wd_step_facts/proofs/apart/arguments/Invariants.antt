use Rattle.std.proofs.Common.{◌≡◌, [], map, take}
use Rattle.wd_plan.specs.Plans.{group_call_of}
use Rattle.wd_step_facts.specs.Apart.{with_new}
use Rattle.wd_step_facts.specs.Steps.{grouping_arguments}
use Rattle.wd_step_facts.proofs.apart.arguments.Given as goal

abbrev pub invariant-loop-call : goal.invariant-loop-call
invariant-loop-call l = l.list.items ≡ with_new (grouping_arguments (map group_call_of (take l.call-index l.calls))) []
