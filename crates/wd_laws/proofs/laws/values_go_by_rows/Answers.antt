use Rattle.wd_laws.proofs.TheLaws as laws
use Rattle.wd_laws.proofs.laws.values_go_by_rows.Goals as goal

pub returns : goal.returns
returns c = laws.values_go_by_rows
