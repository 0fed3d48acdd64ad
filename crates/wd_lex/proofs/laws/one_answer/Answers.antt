use Rattle.wd_lex.proofs.TextLaws.{one_answer as law}
use Rattle.wd_lex.proofs.laws.one_answer.Goals as goal

pub returns : goal.returns
returns c = law
