use Rattle.wd_read_statements.proofs.SchemaLaws.{one_tree as law}
use Rattle.wd_read_statements.proofs.laws.one_tree.Goals as goal

pub returns : goal.returns
returns c = law
