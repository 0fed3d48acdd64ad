use Rattle.std.proofs.Common.{◌≡◌, ◌∙◌, ap, map}
use Rattle.wd_run.specs.Runs.{data_of}
use Rattle.wd_command.specs.Inputs.{table_by}
use Rattle.wd_command.proofs.AnswerLemmas.{run_unanswered}
use Rattle.wd_command.proofs.FailureLemmas.{IfErr-from_known}
use Rattle.wd_command.proofs.program.run_output.Goals as goal

pub returns-in_err-names-clause-err : goal.returns-in_err-names-clause-err
returns-in_err-names-clause-err c =
    let tables = map (table_by (λ text. text.items)) c.args.tables.now in
    let given : data_of c.as_slice.result.now ≡ tables = ap data_of c.as_slice.ensures.value ∙ c.in_ok-data.ensures in
    IfErr-from_known c.from_residual-in_err-names.result _ _ c.from_residual-in_err-names.ensures.1
    (run_unanswered c.args.schema.now c.args.query.now (data_of c.as_slice.result.now) tables c.in_err-names.field-0.0 given c.in_err-names.ensures.refused)
