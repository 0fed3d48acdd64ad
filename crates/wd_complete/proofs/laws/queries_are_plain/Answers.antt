use Rattle.wd_complete.proofs.Lowered.{plain_plan as law}
use Rattle.wd_complete.proofs.laws.queries_are_plain.Goals as goal

pub returns : goal.returns
returns c = law
