use Rattle.wd_lex.proofs.TextLaws.{one_list_of_tokens as law}
use Rattle.wd_lex.proofs.laws.one_list_of_tokens.Goals as goal

pub returns : goal.returns
returns c = law
