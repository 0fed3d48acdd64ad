use Rattle.wd_laws.proofs.Renaming.{commutes}
use Rattle.wd_laws.proofs.laws.window_commutes.Goals as goal

pub returns : goal.returns
returns c w rows ps os once v = commutes rows ps once w os v
