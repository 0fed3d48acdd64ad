use Rattle.wd_steps.proofs.Occurrences.{AreFirstTo}
use Rattle.wd_steps.proofs.distinct.distinct_positions.Given as goal

abbrev pub invariant-loop-i : goal.invariant-loop-i
invariant-loop-i l = AreFirstTo l.rows l.kept.items l.i
