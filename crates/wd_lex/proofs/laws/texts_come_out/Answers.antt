use Rattle.wd_lex.proofs.Worked.{texts_come_out as law}
use Rattle.wd_lex.proofs.laws.texts_come_out.Goals as goal

pub returns : goal.returns
returns c = law
