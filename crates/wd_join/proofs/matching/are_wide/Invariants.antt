use Rattle.std.proofs.Common.{◌≡◌, All, take, length}
use Rattle.wd_join.proofs.matching.are_wide.Given as goal

abbrev pub invariant-loop-position : goal.invariant-loop-position
invariant-loop-position l = All (λ row. length row ≡ l.width) (take l.position l.rows)
