use Rattle.wd_laws.proofs.Widths as laws
use Rattle.wd_laws.proofs.laws.has_widths.Goals as goal

pub returns : goal.returns
returns c = laws.has_widths
