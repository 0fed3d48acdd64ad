use Rattle.wd_schema.proofs.TextFacts.{meaning_or_cause as law}
use Rattle.wd_schema.proofs.laws.meaning_or_cause.Goals as goal

pub returns : goal.returns
returns c = law
