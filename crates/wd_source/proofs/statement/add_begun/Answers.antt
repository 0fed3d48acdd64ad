use Rattle.std.proofs.Common.{arith}
use Rattle.wd_source.proofs.Cutting.{stand_later, stand_more}
use Rattle.wd_source.proofs.statement.add_begun.Goals as goal

pub returns-in_ok-push-clause-order : goal.returns-in_ok-push-clause-order
returns-in_ok-push-clause-order c s = rw c.in_ok-push.ensures.items (stand_more 0 c.args.start c.args.found.now.items (record { start = c.args.start; end = c.args.end }) (omega arith) c.requires s)

pub returns-else-begun-clause-order : goal.returns-else-begun-clause-order
returns-else-begun-clause-order c s = stand_later 0 c.args.start c.args.end c.args.found.now.items c.requires s
