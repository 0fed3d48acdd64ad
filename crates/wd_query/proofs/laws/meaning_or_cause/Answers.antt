use Rattle.wd_query.proofs.MeaningLaw.{meaning_or_cause as law}
use Rattle.wd_query.proofs.laws.meaning_or_cause.Goals as goal

pub returns : goal.returns
returns c = law
