use Rattle.std.proofs.Common.{List, ℕ, IfOk, map, subst}
use Rattle.wd_command.specs.Commands.{HasAnswer}
use Rattle.wd_command.specs.Inputs.{table_by}
use Rattle.wd_command.specs.Words.TaskOf.{Explain, Refute, Run}
use Rattle.wd_command.proofs.program.answer.Goals as goal

pub returns-in-Explain-clause-ok : goal.returns-in-Explain-clause-ok
returns-in-Explain-clause-ok c =
    let Answers = λ (s q : List ℕ). IfOk c.explain_output.result (λ output. HasAnswer (Explain s q) output.text.items output.status) in
    rw c.in-Explain.is
    (subst (λ s. Answers s c.in-Explain.query.items) c.as_slice-in-Explain.ensures.value
    (subst (λ q. Answers c.as_slice-in-Explain.result.now q) c.as_slice-in-Explain-2.ensures.value c.explain_output.ensures.ok))

pub returns-in-Refute-clause-ok : goal.returns-in-Refute-clause-ok
returns-in-Refute-clause-ok c =
    let Answers = λ (s q w : List ℕ). IfOk c.refute_output.result (λ output. HasAnswer (Refute s q w) output.text.items output.status) in
    rw c.in-Refute.is
    (subst (λ s. Answers s c.in-Refute.query.items c.in-Refute.witness.items) c.as_slice-in-Refute.ensures.value
    (subst (λ q. Answers c.as_slice-in-Refute.result.now q c.in-Refute.witness.items) c.as_slice-in-Refute-2.ensures.value
    (subst (λ w. Answers c.as_slice-in-Refute.result.now c.as_slice-in-Refute-2.result.now w) c.as_slice-in-Refute-3.ensures.value c.refute_output.ensures.ok)))

pub returns-in-Run-clause-ok : goal.returns-in-Run-clause-ok
returns-in-Run-clause-ok c =
    let Answers = λ (s q : List ℕ) (ts : List (List ℕ × List ℕ)). IfOk c.run_output.result (λ output. HasAnswer (Run s q ts) output.text.items output.status) in
    let tables = map (table_by (λ text. text.items)) c.in-Run.tables.items in
    rw c.in-Run.is
    (subst (λ s. Answers s c.in-Run.query.items tables) c.as_slice-in-Run.ensures.value
    (subst (λ q. Answers c.as_slice-in-Run.result.now q tables) c.as_slice-in-Run-2.ensures.value
    (subst (λ ts. Answers c.as_slice-in-Run.result.now c.as_slice-in-Run-2.result.now (map (table_by (λ text. text.items)) ts)) c.as_slice-in-Run-3.ensures.value c.run_output.ensures.ok)))
