use Rattle.std.proofs.Common.{map}
use Rattle.std.proofs.lemmas.Result.{IfErr-weaker, IfOk-weaker}
use Rattle.wd_command.specs.Commands.{HasAnswer}
use Rattle.wd_command.specs.Failures.{HasReason, IsUnanswered}
use Rattle.wd_command.specs.Files.{reads}
use Rattle.wd_command.specs.Inputs.{task_of_paths, task_of_texts}
use Rattle.wd_command.proofs.AnswerLemmas.{output_from, reason_from}
use Rattle.wd_command.proofs.FailureLemmas.{IfErr-from_same}
use Rattle.wd_command.proofs.program.make_output.Goals as goal

pub returns-in_err-task-clause-err : goal.returns-in_err-task-clause-err
returns-in_err-task-clause-err g c =
    let before = reads (g.F.Files.handed c.args.files.now) (g.F.Files.failures c.args.files.now) in
    IfErr-from_same c.from_residual.result c.in_err-task.field-0.0 (HasReason (map (λ w. w.now) c.args.words.now) before before) c.from_residual.ensures.1
    (c.in_err-task.ensures.err before)

pub returns-clause-ok : goal.returns-clause-ok
returns-clause-ok g c =
    let words = map (λ w. w.now) c.args.words.now in
    let before = reads (g.F.Files.handed c.args.files.now) (g.F.Files.failures c.args.files.now) in
    let after = reads (g.F.Files.handed c.read_inputs.new.files) (g.F.Files.failures c.read_inputs.new.files) in
    let texts = task_of_texts c.in_ok-task-2.task in
    IfOk-weaker c.answer.result (λ output. HasAnswer texts output.text.items output.status) _
    (output_from words before after (task_of_paths c.in_ok-task.task) texts c.in_ok-task.ensures.ok c.in_ok-task-2.ensures.ok) c.answer.ensures.ok

pub returns-clause-err : goal.returns-clause-err
returns-clause-err g c =
    let words = map (λ w. w.now) c.args.words.now in
    let before = reads (g.F.Files.handed c.args.files.now) (g.F.Files.failures c.args.files.now) in
    let after = reads (g.F.Files.handed c.read_inputs.new.files) (g.F.Files.failures c.read_inputs.new.files) in
    let texts = task_of_texts c.in_ok-task-2.task in
    IfErr-weaker c.answer.result (IsUnanswered texts) _
    (reason_from words before after (task_of_paths c.in_ok-task.task) texts c.in_ok-task.ensures.ok c.in_ok-task-2.ensures.ok) c.answer.ensures.err
