use Rattle.wd_refute.proofs.Verdicts.{refuted_is_taken as law}
use Rattle.wd_refute.proofs.laws.refuted_is_taken.Goals as goal

pub returns : goal.returns
returns c = law c.meaning_or_cause.ensures c.one_meaning.ensures c.one_plan.ensures c.spells_one.ensures c.is_read_back.ensures
