use Rattle.wd_schema.proofs.TextFacts.{one_meaning as law}
use Rattle.wd_schema.proofs.laws.one_meaning.Goals as goal

pub returns : goal.returns
returns c = law
