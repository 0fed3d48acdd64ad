use Rattle.wd_sets.proofs.Bits.{Within}
use Rattle.wd_sets.proofs.set.are_within.Given as goal

abbrev pub invariant-loop-at : goal.invariant-loop-at
invariant-loop-at l = Within l.words l.first l.second l.at
