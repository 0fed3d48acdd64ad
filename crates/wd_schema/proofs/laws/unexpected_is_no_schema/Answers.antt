use Rattle.wd_schema.proofs.TextFacts.{unexpected_is_no_schema as law}
use Rattle.wd_schema.proofs.laws.unexpected_is_no_schema.Goals as goal

pub returns : goal.returns
returns c = law
