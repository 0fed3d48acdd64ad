use Rattle.wd_complete.proofs.Found.{open_is_found as law}
use Rattle.wd_complete.proofs.laws.open_is_found.Goals as goal

pub returns : goal.returns
returns c = law
