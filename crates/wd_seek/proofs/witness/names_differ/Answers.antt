use Rattle.wd_seek.proofs.Names.{names_differ}
use Rattle.wd_seek.proofs.witness.names_differ.Goals as goal

pub returns : goal.returns
returns c = names_differ c.args.schema.now.tables.entries c.args.schema.now.named c.len.ensures.unique
