use Rattle.wd_laws.proofs.RowNumbers as laws
use Rattle.wd_laws.proofs.laws.row_numbers_count.Goals as goal

pub returns : goal.returns
returns c = laws.row_numbers_count
