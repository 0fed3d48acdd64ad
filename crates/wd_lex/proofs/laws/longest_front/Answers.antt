use Rattle.wd_lex.proofs.TextLaws.{longest_front as law}
use Rattle.wd_lex.proofs.laws.longest_front.Goals as goal

pub returns : goal.returns
returns c = law
