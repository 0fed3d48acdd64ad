use Rattle.std.proofs.Common.{flat_map, option_to_list, take}
use Rattle.wd_plan.specs.Functions.{argument_of}
use Rattle.wd_plan.specs.declared.window.Call.{Call}
use Rattle.wd_simpler.specs.Sets.{HasAlso}
use Rattle.wd_simpler.proofs.columns.add_arguments.Given as goal

abbrev pub invariant-loop-call : goal.invariant-loop-call
invariant-loop-call l = HasAlso l.initial.set (flat_map (λ (call : Call). option_to_list (argument_of call.function)) (take l.call-index l.calls)) l.set
