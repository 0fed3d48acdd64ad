use Rattle.std.proofs.Common.{subst}
use Rattle.wd_decide.specs.Verdicts.{IsVerdict}
use Rattle.wd_decide.specs.declared.verdict.Verdict.TheVariants.{Deterministic}
use Rattle.wd_help.proofs.help.decide_changes.Goals as goal

pub returns-in-Ok-Deterministic : goal.returns-in-Ok-Deterministic
returns-in-Ok-Deterministic c =
    let certificate = c.in-Ok-Deterministic._certificate in
    let decided = subst (IsVerdict c.args.schema.now c.deref.result.now) c.in-Ok-Deterministic.field-0-is c.in-Ok-Deterministic.ensures.verdict in
    record {
      put = c.requires;
      certificate = certificate;
      decided = subst (λ text. IsVerdict c.args.schema.now text (Deterministic certificate)) c.deref.ensures.value decided;
    }
