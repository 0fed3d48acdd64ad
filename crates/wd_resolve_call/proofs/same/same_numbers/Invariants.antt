use Rattle.std.proofs.Common.{◌≡◌, drop, nat_eq}
use lib.Pointwise.{pointwise}
use Rattle.wd_resolve_call.proofs.same.same_numbers.Given as goal

abbrev pub invariant-loop-i : goal.invariant-loop-i
invariant-loop-i l = pointwise nat_eq (drop l.i l.a) (drop l.i l.b) ≡ pointwise nat_eq l.a l.b
