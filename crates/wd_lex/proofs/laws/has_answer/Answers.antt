use Rattle.wd_lex.proofs.Progress.{has_answer as law}
use Rattle.wd_lex.proofs.laws.has_answer.Goals as goal

pub returns : goal.returns
returns c = law
