use Rattle.wd_sizes.proofs.Bounded as laws
use Rattle.wd_sizes.proofs.laws.bounded_are_small.Goals as goal

pub returns : goal.returns
returns c = laws.bounded_are_small
