use Rattle.wd_syntax.proofs.Rows.{view_chain}
use Rattle.wd_read_expression.proofs.tree.link.Goals as goal

pub returns : goal.returns
returns c = view_chain c.args.first c.args.before c.args.last
