use Rattle.wd_complete.proofs.Examples.{example as law}
use Rattle.wd_complete.proofs.laws.example_is_plain.Goals as goal

pub returns : goal.returns
returns c = law
