use Rattle.wd_headline.proofs.Together.{headline as law}
use Rattle.wd_headline.proofs.laws.headline.Goals as goal

pub returns : goal.returns
returns c = law c.accepted_has_one.ensures
