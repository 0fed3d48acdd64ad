use Rattle.wd_complete.proofs.Found.{open_shows_two as law}
use Rattle.wd_complete.proofs.laws.open_shows_two.Goals as goal

pub returns : goal.returns
returns c = law
