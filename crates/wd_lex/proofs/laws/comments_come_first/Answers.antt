use Rattle.wd_lex.proofs.CommentLaw.{comments_come_first as law}
use Rattle.wd_lex.proofs.laws.comments_come_first.Goals as goal

pub returns : goal.returns
returns c = law
