use Rattle.wd_laws.proofs.TheLaws as laws
use Rattle.wd_laws.proofs.laws.same_rows_at_places.Goals as goal

pub returns : goal.returns
returns c = laws.same_rows_at_places
