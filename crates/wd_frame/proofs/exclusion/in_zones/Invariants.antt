use Rattle.std.proofs.Common.{take}
use Rattle.wd_frame.specs.IndexRanges.{AreZones, lists_of}
use Rattle.wd_frame.proofs.exclusion.in_zones.Given as goal

abbrev pub invariant-loop-zone : goal.invariant-loop-zone
invariant-loop-zone l = AreZones (take l.zone-index l.zones) l.bounds l.left_out (lists_of l.lists.items)
