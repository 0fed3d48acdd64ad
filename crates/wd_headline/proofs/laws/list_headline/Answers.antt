use Rattle.wd_headline.proofs.Together.{list_headline as law}
use Rattle.wd_headline.proofs.laws.list_headline.Goals as goal

pub returns : goal.returns
returns c = law c.listed_has_one_list.ensures
