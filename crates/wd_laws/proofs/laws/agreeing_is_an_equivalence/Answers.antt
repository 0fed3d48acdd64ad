use Rattle.wd_laws.proofs.Agreeing.{agreeing}
use Rattle.wd_laws.proofs.laws.agreeing_is_an_equivalence.Goals as goal

pub returns : goal.returns
returns c = agreeing
