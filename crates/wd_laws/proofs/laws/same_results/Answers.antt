use Rattle.wd_laws.proofs.Exchange as laws
use Rattle.wd_laws.proofs.laws.same_results.Goals as goal

pub returns : goal.returns
returns c = laws.same_results
