use Rattle.std.proofs.lemmas.Grind.{common_steps}
use Rattle.std.proofs.Common.{◌≡◌, ◌∙◌, ◌+◌, ◌<◌, ◌++◌, ℕ, List, [], ◌∷◌, ap, arith, get_or, length, map, sym, take}
use Rattle.std.proofs.lemmas.List.{map-append, take_more}
use Rattle.wd_plan.specs.declared.group.GroupCall.{GroupCall as Code}
use Rattle.wd_plan.specs.Plans.{group_call_of}
use Rattle.wd_step_facts.specs.Apart.{with_new}
use Rattle.wd_step_facts.specs.Steps as spec
use Rattle.wd_step_facts.proofs.ToldApart.{arguments_next}
use Rattle.wd_step_facts.proofs.apart.arguments.Goals as goal

taken : (calls : List Code) (i : ℕ) (call : Code) → i < length calls → call ≡ get_or calls i call
    → with_new (spec.grouping_arguments_of (group_call_of call)) (with_new (spec.grouping_arguments (map group_call_of (take i calls))) [])
    ≡ with_new (spec.grouping_arguments (map group_call_of (take (i + 1) calls))) []
taken calls i call h is =
    let more : take (i + 1) calls ≡ take i calls ++ call ∷ [] = take_more calls i call h ∙ ap (λ c. take i calls ++ c ∷ []) (sym is) in
    sym (arguments_next (map group_call_of (take i calls)) (group_call_of call))
    ∙ ap (λ l. with_new (spec.grouping_arguments l) []) (sym (ap (map group_call_of) more ∙ map-append group_call_of (take i calls) (call ∷ [])))

pub loop-call-preserved : goal.loop-call-preserved
loop-call-preserved c =
    c.in_ok-add_arguments.ensures ∙ ap (with_new (spec.grouping_arguments_of (group_call_of c.call-item.result))) c.loop-call.invariant
    ∙ taken c.args.calls.now c.loop-call.call-index c.call-item.result (omega (arith, c.loop-call-test.true)) c.call-item.is

pub returns : goal.returns
returns c = grind (arith, common_steps)
