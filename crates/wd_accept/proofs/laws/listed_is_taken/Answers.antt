use Rattle.wd_accept.proofs.Listed.{listed_is_taken as law}
use Rattle.wd_accept.proofs.laws.listed_is_taken.Goals as goal

pub returns : goal.returns
returns c = law c.one_meaning.ensures c.one_plan.ensures c.is_read_back.ensures c.listed_has_one_list.ensures c.accepted_is_taken.ensures
