use Rattle.wd_laws.proofs.GroupWindows as laws
use Rattle.wd_laws.proofs.laws.sets_are_windows.Goals as goal

pub returns : goal.returns
returns c = laws.sets_are_windows
