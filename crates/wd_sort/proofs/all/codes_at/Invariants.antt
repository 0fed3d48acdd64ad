use Rattle.std.proofs.Common.{◌≡◌, get_or, map, take}
use Rattle.wd_sort.proofs.all.codes_at.Given as goal

abbrev pub invariant-loop-i : goal.invariant-loop-i
invariant-loop-i l = l.found.items ≡ map (λ p. get_or l.codes p 0) (take l.i l.positions)
