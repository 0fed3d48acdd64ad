use Rattle.wd_run.proofs.DataLemmas as laws
use Rattle.wd_run.proofs.laws.data_meets.Goals as goal

pub returns : goal.returns
returns c = laws.data_meets
