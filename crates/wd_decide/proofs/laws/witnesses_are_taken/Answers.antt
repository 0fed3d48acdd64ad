use Rattle.wd_decide.proofs.Taken.{witnesses_taken as law}
use Rattle.wd_decide.proofs.laws.witnesses_are_taken.Goals as goal

pub returns : goal.returns
returns c = law c.meaning_or_cause.ensures c.reported_are_true.ensures
