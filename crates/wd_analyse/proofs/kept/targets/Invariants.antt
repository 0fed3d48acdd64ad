use Rattle.std.proofs.Common.{◌≡◌, ◌++◌, drop, map}
use Rattle.wd_analyse.specs.Kept.{target_of}
use Rattle.wd_analyse.proofs.kept.targets.Given as goal

abbrev pub invariant-loop-member : goal.invariant-loop-member
invariant-loop-member l = l.list.items ++ map target_of (drop l.member-index l.members) ≡ map target_of l.members
