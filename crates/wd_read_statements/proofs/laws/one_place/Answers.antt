use Rattle.wd_read_statements.proofs.SchemaLaws.{one_place as law}
use Rattle.wd_read_statements.proofs.laws.one_place.Goals as goal

pub returns : goal.returns
returns c = law
