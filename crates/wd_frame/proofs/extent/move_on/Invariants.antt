use Rattle.std.proofs.Common.{◌<◌, ◌≤◌, length}
use Rattle.wd_frame.specs.Bounds.{IsInOrder, bound_of}
use Rattle.wd_frame.specs.Places.{part_of}
use Rattle.wd_frame.proofs.extent.move_on.Given as goal

abbrev pub invariant-loop-other : goal.invariant-loop-other
invariant-loop-other l = IsInOrder (part_of l.part) l.frame → l.place < length l.part.groups.now → l.from ≤ bound_of l.side (part_of l.part) l.frame l.place → l.other ≤ bound_of l.side (part_of l.part) l.frame l.place
