use Rattle.std.proofs.Common.{◌+◌, [], ◌∷◌, ◌++◌, map, ap, sym, ◌∙◌, arith}
use Rattle.std.proofs.lemmas.List.{length-map, length_push, map-append}
use Rattle.wd_plan.specs.Plans.{group_call_of}
use Rattle.wd_simpler.proofs.Same.{group_calls_push}
use Rattle.wd_simpler.specs.Sets.{read_of}
use Rattle.wd_simpler.specs.Simpler.{after, read_group_call, read_group_calls}
use Rattle.wd_simpler.proofs.plan.read_group_calls.Goals as goal

pub loop-call-preserved : goal.loop-call-preserved
loop-call-preserved c =
    let done = c.loop-call.yielded in
    let read = read_of c.args.read.now in
    let call = group_call_of c.in-Some.call in
    let at = c.loop-call.invariant.0 in
    let value = c.read_group_call.ensures ∙ ap (λ b. read_group_call b call) (c.is_read.ensures ∙ ap read (at ∙ ap (λ n. c.args.columns + n) (sym (length-map done group_call_of)))) in (
      omega (arith, at, length_push done c.in-Some.call),
      ap (map group_call_of) c.in_ok-push.ensures.items
          ∙ map-append group_call_of c.loop-call.kept.items (c.read_group_call.result ∷ [])
          ∙ (λ i. c.loop-call.invariant.1 i ++ value i ∷ [])
          ∙ sym (group_calls_push (after c.args.columns read) (map group_call_of done) call)
          ∙ ap (read_group_calls (after c.args.columns read)) (sym (map-append group_call_of done (c.in-Some.call ∷ []))),
    )
