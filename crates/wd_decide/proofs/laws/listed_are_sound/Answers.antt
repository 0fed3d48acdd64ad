use Rattle.wd_decide.proofs.Lists.{listed_are_sound as law}
use Rattle.wd_decide.proofs.laws.listed_are_sound.Goals as goal

pub returns : goal.returns
returns c = law
