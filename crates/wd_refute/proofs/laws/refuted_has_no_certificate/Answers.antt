use Rattle.wd_refute.proofs.Verdicts.{refuted_has_no_certificate as law}
use Rattle.wd_refute.proofs.laws.refuted_has_no_certificate.Goals as goal

pub returns : goal.returns
returns c = law c.one_meaning.ensures c.one_plan.ensures c.plans_fit.ensures c.never_both.ensures
