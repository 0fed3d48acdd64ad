use Rattle.std.proofs.Common.{◌≡◌, flat_map, take}
use Rattle.wd_varied.specs.Suggested.{around}
use Rattle.wd_varied.proofs.suggested.all_around.Given as goal

abbrev pub invariant-loop-one : goal.invariant-loop-one
invariant-loop-one l = l.all.items ≡ flat_map around (take l.one-index l.found)
