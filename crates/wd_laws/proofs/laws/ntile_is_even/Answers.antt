use Rattle.wd_laws.proofs.Buckets as laws
use Rattle.wd_laws.proofs.laws.ntile_is_even.Goals as goal

pub returns : goal.returns
returns c = laws.ntile_is_even
