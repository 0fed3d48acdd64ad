use Rattle.wd_analyse.proofs.Unique.{answers_alike}
use Rattle.wd_analyse.proofs.laws.answers_are_alike.Goals as goal

pub returns : goal.returns
returns c = answers_alike
