use Rattle.std.proofs.Common.{[], ◌∷◌, ◌++◌, ap, sym, ◌∙◌, arith}
use Rattle.std.proofs.lemmas.List.{length_push}
use Rattle.wd_simpler.proofs.Same.{calls_push}
use Rattle.wd_simpler.specs.Sets.{read_of}
use Rattle.wd_simpler.specs.Simpler.{after, read_call}
use Rattle.wd_simpler.proofs.plan.read_calls.Goals as goal

pub loop-call-preserved : goal.loop-call-preserved
loop-call-preserved c =
    let done = c.loop-call.yielded in
    let read = read_of c.args.read.now in
    let at = c.loop-call.invariant.0 in
    let value = c.read_call.ensures ∙ ap (λ b. read_call b c.in-Some.call) (c.is_read.ensures ∙ ap read at) in (
      omega (arith, at, length_push done c.in-Some.call),
      c.in_ok-push.ensures.items
          ∙ (λ i. c.loop-call.invariant.1 i ++ value i ∷ [])
          ∙ sym (calls_push (after c.args.columns read) done c.in-Some.call),
    )
