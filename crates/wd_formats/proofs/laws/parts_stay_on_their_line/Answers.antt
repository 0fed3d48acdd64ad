use Rattle.wd_formats.proofs.Parts.{text_stays}
use Rattle.wd_formats.proofs.laws.parts_stay_on_their_line.Goals as goal

pub returns : goal.returns
returns c = text_stays
