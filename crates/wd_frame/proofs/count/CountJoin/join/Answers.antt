use Rattle.wd_frame.proofs.Joining.{join_counts}
use Rattle.wd_frame.proofs.count.CountJoin.join.Goals as goal

pub returns : goal.returns
returns c = join_counts c.args.first c.args.second c.add.result (λ m n first second few. (c.add.ensures.exact m n first second few, c.add.ensures.small m n first second few))
