use Rattle.wd_dialect_schema.proofs.LawFacts.{meaning_or_cause as law}
use Rattle.wd_dialect_schema.proofs.laws.meaning_or_cause.Goals as goal

pub returns : goal.returns
returns c = law
