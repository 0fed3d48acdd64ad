use Rattle.wd_decide.proofs.Sound.{sound}
use Rattle.wd_decide.proofs.laws.reported_are_sound.Goals as goal

pub returns : goal.returns
returns c = sound
