use Rattle.std.proofs.Common.{◌+◌, [], ◌∷◌, ◌++◌, map, ap, sym, ◌∙◌}
use Rattle.std.proofs.lemmas.List.{length-map, length_push, map-append}
use Rattle.wd_plan.specs.Expressions.{expression_of}
use Rattle.wd_simpler.proofs.Same.{outputs_push}
use Rattle.wd_simpler.specs.Sets.{read_of}
use Rattle.wd_simpler.specs.Simpler.{read_output, read_outputs}
use Rattle.wd_simpler.proofs.plan.read_outputs.Goals as goal

pub loop-output-preserved : goal.loop-output-preserved
loop-output-preserved c =
    let done = c.loop-output.yielded in
    let read = read_of c.args.read.now in
    let e = expression_of c.in-Some.output in
    let at = c.loop-output.invariant.0 in
    let value = c.read_output.ensures ∙ ap (λ b. read_output b e) (c.is_read.ensures ∙ ap read (at ∙ sym (length-map done expression_of))) in (
      ap (λ n. n + 1) at ∙ sym (length_push done c.in-Some.output),
      ap (map expression_of) c.in_ok-push.ensures.items
          ∙ map-append expression_of c.loop-output.kept.items (c.read_output.result ∷ [])
          ∙ (λ i. c.loop-output.invariant.1 i ++ value i ∷ [])
          ∙ sym (outputs_push read (map expression_of done) e)
          ∙ ap (read_outputs read) (sym (map-append expression_of done (c.in-Some.output ∷ []))),
    )
