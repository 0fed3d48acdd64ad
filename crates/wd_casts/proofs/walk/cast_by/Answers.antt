use Rattle.std.proofs.lemmas.Result.{err_from_is_err_and}
use Rattle.wd_casts.specs.declared.kind.Kind.TheVariants.{Small}
use Rattle.wd_casts.specs.Walked.{cast_by}
use Rattle.wd_casts.proofs.GrowFacts.{casts_refused}
use Rattle.wd_casts.proofs.walk.cast_by.Goals as goal

pub returns-in_err-operand : goal.returns-in_err-operand
returns-in_err-operand c =
    let p = err_from_is_err_and c.from_residual.result c.from_residual.ensures.1 in
    rw (p.1, p.2)
    (casts_refused c.in_err-operand.field-0.0 c.loop-rest.known c.loop-rest.rest.now (record { kind = Small; at = record { start = 0; end = 0 } }) c.loop-rest.operand.items (cast_by c.args.known c.args.casts.now c.args.operand.items) c.in-len1-up.len_at_least c.in_err-operand.ensures c.loop-rest.invariant)
