use Rattle.wd_syntax.proofs.Rows.{view_case}
use Rattle.wd_read_expression.proofs.tree.case_of.Goals as goal

pub returns : goal.returns
returns c = view_case c.args.arms c.args.other
