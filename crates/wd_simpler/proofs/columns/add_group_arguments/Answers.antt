use Rattle.std.proofs.lemmas.Grind.{common_steps}
use Rattle.std.proofs.Common.{◌≡◌, ◌<◌, map, length, get_or, arith, ap, sym, ◌∙◌, option_to_list}
use Rattle.std.proofs.lemmas.List.{get_or-map, length-map}
use Rattle.wd_plan.specs.Plans.{GroupCall, group_call_of}
use Rattle.wd_simpler.proofs.Sets.{also_more}
use Rattle.wd_simpler.specs.Simpler.{group_argument}
use Rattle.wd_simpler.proofs.columns.add_group_arguments.Goals as goal

pub loop-call-preserved : goal.loop-call-preserved
loop-call-preserved c =
    let calls = c.args.calls.now in
    let i = c.loop-call.call-index in
    let item = c.call-item.result in
    let call : GroupCall = group_call_of item in
    let within : i < length calls = omega arith in
    let is : call ≡ get_or (map group_call_of calls) i call = ap group_call_of c.call-item.is ∙ sym (get_or-map group_call_of calls i item call within) in
    also_more (λ call. option_to_list (group_argument call)) c.args.set.now c.loop-call.set c.add_group_argument.new.set (map group_call_of calls) i call (simp length-map within) is c.loop-call.invariant c.in_ok-add_group_argument.ensures

pub returns : goal.returns
returns c = grind (arith, common_steps)
