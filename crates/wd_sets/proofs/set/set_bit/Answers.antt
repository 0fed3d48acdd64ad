use Rattle.wd_sets.proofs.Bits.{bits_put}
use Rattle.wd_sets.proofs.set.set_bit.Goals as goal

pub returns : goal.returns
returns c = record { bits = bits_put c.args.words.now c.args.at c.requires.within }
