use Rattle.wd_frame.proofs.Joining.{join_sums}
use Rattle.wd_frame.proofs.sum.SumJoin.join.Goals as goal

pub returns : goal.returns
returns c = join_sums c.args.first c.args.second c.add.result (λ m n first second few. (c.add.ensures.exact m n first second few, c.add.ensures.small m n first second few))
