use Rattle.wd_run.specs.Runs.{data_of}
use Rattle.wd_run.proofs.RunLemmas.{HasCause-from_outcome, IsAnswer-from_outcome}
use Rattle.wd_run.proofs.engine.run_kept.Goals as goal

pub answer_over-requires-clause-differ : goal.answer_over-requires-clause-differ
answer_over-requires-clause-differ c = c.in-Ok.ensures.well_formed.names

pub returns-in-Ok-answer_over-clause-answer : goal.returns-in-Ok-answer_over-clause-answer
returns-in-Ok-answer_over-clause-answer c =
    IsAnswer-from_outcome c.args.schema.now c.args.query.now (data_of c.args.tables.now) c.in-Ok.planned c.in-Ok.ensures.read c.in-Ok-answer_over.answer c.in-Ok-answer_over.ensures.outcome

pub returns-clause-refused : goal.returns-clause-refused
returns-clause-refused c =
    HasCause-from_outcome c.args.schema.now c.args.query.now (data_of c.args.tables.now) c.in-Ok.planned c.in-Ok.ensures.read c.in-Err-answer_over.error c.in-Err-answer_over.ensures.refused
