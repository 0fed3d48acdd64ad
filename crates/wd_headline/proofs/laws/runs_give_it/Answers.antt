use Rattle.wd_headline.proofs.Together.{runs_give_it as law}
use Rattle.wd_headline.proofs.laws.runs_give_it.Goals as goal

pub returns : goal.returns
returns c = law c.accepted_has_one.ensures c.data_meets.ensures
