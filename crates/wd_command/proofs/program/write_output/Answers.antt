use Rattle.wd_command.proofs.FailureLemmas.{IfErr-from_same, IsEnding-from_reason}
use Rattle.wd_command.proofs.program.write_output.Goals as goal

pub returns-in_err-output-clause-err : goal.returns-in_err-output-clause-err
returns-in_err-output-clause-err g c =
    IfErr-from_same c.from_residual.result c.in_err-output.field-0.0 _ c.from_residual.ensures.1
    (IsEnding-from_reason _ _ _ (g.O.Write.contents c.args.out.now) c.in_err-output.field-0.0 c.in_err-output.ensures.err)
