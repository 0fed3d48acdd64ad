use Rattle.wd_refute.proofs.Verdicts.{shown_is_not_refused as law}
use Rattle.wd_refute.proofs.laws.shown_is_not_refused.Goals as goal

pub returns : goal.returns
returns c = law c.spells_one.ensures c.is_read_back.ensures
