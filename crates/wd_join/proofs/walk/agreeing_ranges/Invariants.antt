use Rattle.wd_join.proofs.Walking.{AreWalked}
use Rattle.wd_join.proofs.walk.agreeing_ranges.Given as goal

abbrev pub invariant-loop-position : goal.invariant-loop-position
invariant-loop-position l = AreWalked l.columns l.left l.right l.left_order l.order l.position-index l.known l.ranges.items
