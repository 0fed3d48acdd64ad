use Rattle.wd_syntax.proofs.Rows.{view_call}
use Rattle.wd_read_expression.proofs.tree.call_of.Goals as goal

pub returns-in-Some : goal.returns-in-Some
returns-in-Some c = rw c.in-Some.is (view_call c.args.name c.in-Some.arguments c.args.over)
