use Rattle.wd_syntax.proofs.Rows.{view_derived}
use Rattle.wd_parse.proofs.query.derived_table.Goals as goal

pub returns : goal.returns
returns c = view_derived c.args.select c.args.alias
