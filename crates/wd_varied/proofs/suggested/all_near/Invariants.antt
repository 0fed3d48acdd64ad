use Rattle.std.proofs.Common.{◌≡◌, take}
use Rattle.wd_varied.specs.Suggested.{all_near}
use Rattle.wd_varied.proofs.suggested.all_near.Given as goal

abbrev pub invariant-loop-literal : goal.invariant-loop-literal
invariant-loop-literal l = l.all.items ≡ all_near (take l.literal-index l.literals)
