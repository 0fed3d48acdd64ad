use Rattle.wd_laws.proofs.SomeChoice as laws
use Rattle.wd_laws.proofs.laws.has_valid_choice.Goals as goal

pub returns : goal.returns
returns c = laws.has_valid_choice
