use Rattle.wd_rules.proofs.Sound as laws
use Rattle.wd_rules.proofs.laws.valid_shows.Goals as goal

pub returns : goal.returns
returns c = laws.valid_shows
