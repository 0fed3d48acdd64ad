use Rattle.wd_command.proofs.program.check_output.Goals as goal

pub returns-clause-ok : goal.returns-clause-ok
returns-clause-ok c =
    rw c.if-listed.false (c.in_ok-verdict-2.verdict, c.in_ok-verdict-2.ensures.verdict, c.in_ok-output-2.ensures.text, c.in_ok-output-2.ensures.status)
