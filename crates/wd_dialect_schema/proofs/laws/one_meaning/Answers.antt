use Rattle.wd_dialect_schema.proofs.LawFacts.{one_meaning as law}
use Rattle.wd_dialect_schema.proofs.laws.one_meaning.Goals as goal

pub returns : goal.returns
returns c = law
