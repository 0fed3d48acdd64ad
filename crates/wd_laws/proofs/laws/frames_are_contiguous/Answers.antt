use Rattle.wd_laws.proofs.Contiguous as laws
use Rattle.wd_laws.proofs.laws.frames_are_contiguous.Goals as goal

pub returns : goal.returns
returns c = laws.frames_are_contiguous
