use Rattle.wd_laws.proofs.Exchange as laws
use Rattle.wd_laws.proofs.laws.exchange_renames.Goals as goal

pub returns : goal.returns
returns c = laws.exchange_renames
