use Rattle.wd_witness_text.proofs.Inverse as laws
use Rattle.wd_witness_text.proofs.laws.is_read_back.Goals as goal

pub returns : goal.returns
returns c = laws.is_read_back
