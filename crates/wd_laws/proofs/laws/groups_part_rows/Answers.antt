use Rattle.wd_laws.proofs.Grouping as laws
use Rattle.wd_laws.proofs.laws.groups_part_rows.Goals as goal

pub returns : goal.returns
returns c = laws.groups_part_rows
