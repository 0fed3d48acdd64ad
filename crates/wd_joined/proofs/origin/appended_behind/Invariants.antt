use Rattle.std.proofs.Common.{◌≡◌, ◌++◌, map, take}
use Rattle.wd_joined.specs.Joined.{behind}
use Rattle.wd_joined.proofs.origin.appended_behind.Given as goal

abbrev pub invariant-loop-origin : goal.invariant-loop-origin
invariant-loop-origin l = l.all.items ≡ l.fn.first.items ++ map (behind l.count) (take l.origin-index l.second)
