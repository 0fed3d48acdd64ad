use Rattle.wd_excuse.proofs.OneRemark.{one_remark}
use Rattle.wd_excuse.proofs.laws.has_one_remark.Goals as goal

pub returns : goal.returns
returns c = one_remark
