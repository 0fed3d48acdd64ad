use Rattle.wd_baseline.proofs.WrittenBack.{read_back}
use Rattle.wd_baseline.proofs.laws.is_read_back.Goals as goal

pub returns : goal.returns
returns c = read_back
