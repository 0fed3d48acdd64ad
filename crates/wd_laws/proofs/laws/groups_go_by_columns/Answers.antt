use Rattle.wd_laws.proofs.Grouping as laws
use Rattle.wd_laws.proofs.laws.groups_go_by_columns.Goals as goal

pub returns : goal.returns
returns c = laws.groups_go_by_columns
