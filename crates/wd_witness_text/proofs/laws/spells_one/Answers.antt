use Rattle.wd_witness_text.proofs.Inverse as laws
use Rattle.wd_witness_text.proofs.laws.spells_one.Goals as goal

pub returns : goal.returns
returns c = laws.spells_one
