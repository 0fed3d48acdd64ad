use Rattle.wd_headline.proofs.Together.{runs_give_the_list as law}
use Rattle.wd_headline.proofs.laws.runs_give_the_list.Goals as goal

pub returns : goal.returns
returns c = law c.listed_has_one_list.ensures c.data_meets.ensures
