use Rattle.wd_syntax.proofs.Rows.{view_window_is}
use Rattle.wd_read_expression.proofs.tree.window_of.Goals as goal

pub returns : goal.returns
returns c = view_window_is c.args.base c.args.partition c.args.order c.args.frame
