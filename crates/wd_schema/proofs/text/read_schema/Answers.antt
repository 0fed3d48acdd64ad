use Rattle.wd_schema.proofs.TextFacts.{gives_by, refused_by}
use Rattle.wd_schema.proofs.text.read_schema.Goals as goal

pub returns-clause-declared : goal.returns-clause-declared
returns-clause-declared c = gives_by c.args.text.now c.answer.result c.answer.ensures.schema c.answer.ensures.cause

pub returns-clause-refused : goal.returns-clause-refused
returns-clause-refused c = refused_by c.args.text.now c.answer.result c.answer.ensures.schema
