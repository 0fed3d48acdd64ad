use Rattle.std.proofs.Common.{◌≡◌, map, take}
use Rattle.wd_seek.proofs.passed.are_all_same.Given as goal

abbrev pub invariant-loop-number : goal.invariant-loop-number
invariant-loop-number l = map (λ v. v.items) (take l.number l.left) ≡ map (λ v. v.items) (take l.number l.right)
