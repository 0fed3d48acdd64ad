use Rattle.std.proofs.Common.{◌≤◌, ◌+◌, length}
use Rattle.wd_steps.specs.Repeats.{AreMarked}
use Rattle.wd_steps.proofs.distinct.marked_neighbours.Given as goal

abbrev pub invariant-loop-i : goal.invariant-loop-i
invariant-loop-i l = (l.i ≤ length l.order + 1) × AreMarked l.rows l.order l.i l.marks.items
