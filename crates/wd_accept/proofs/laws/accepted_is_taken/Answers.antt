use Rattle.wd_accept.proofs.Verdicts.{accepted_is_taken as law}
use Rattle.wd_accept.proofs.laws.accepted_is_taken.Goals as goal

pub returns : goal.returns
returns c = law c.meaning_or_cause.ensures c.not_both.ensures
