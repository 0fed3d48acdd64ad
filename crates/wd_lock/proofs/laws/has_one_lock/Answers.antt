use Rattle.wd_lock.proofs.OneLock.{one_lock}
use Rattle.wd_lock.proofs.laws.has_one_lock.Goals as goal

pub returns : goal.returns
returns c = one_lock c.is_read_back.ensures
