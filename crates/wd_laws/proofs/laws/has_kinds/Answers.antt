use Rattle.wd_laws.proofs.Widths as laws
use Rattle.wd_laws.proofs.laws.has_kinds.Goals as goal

pub returns : goal.returns
returns c = laws.has_kinds
