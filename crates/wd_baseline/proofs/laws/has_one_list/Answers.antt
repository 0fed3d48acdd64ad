use Rattle.wd_baseline.proofs.OneList.{one_list}
use Rattle.wd_baseline.proofs.laws.has_one_list.Goals as goal

pub returns : goal.returns
returns c = one_list
