use Rattle.wd_judged.proofs.Mending.{mended_fix}
use Rattle.wd_file.proofs.file.add_statement.Goals as goal

pub returns-clause-mended : goal.returns-clause-mended
returns-clause-mended g c =
    mended_fix c.args.task.schema.text.now c.args.task.query.text.now c.args.span c.in_ok-settled.settled.judged c.fix.result c.in_ok-settled.ensures.judged c.fix.ensures
