use Rattle.wd_headline.proofs.Together.{accepted_is_not_refuted as law}
use Rattle.wd_headline.proofs.laws.accepted_is_not_refuted.Goals as goal

pub returns : goal.returns
returns c = law c.refuted_has_no_certificate.ensures
