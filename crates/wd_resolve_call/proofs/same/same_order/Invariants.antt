use Rattle.std.proofs.Common.{◌≡◌, drop, map}
use lib.Pointwise.{pointwise}
use Rattle.wd_resolve_call.specs.Calls.{same_key}
use Rattle.wd_resolve_call.specs.Windows.{key_of}
use Rattle.wd_resolve_call.proofs.same.same_order.Given as goal

abbrev pub invariant-loop-i : goal.invariant-loop-i
invariant-loop-i l = pointwise same_key (map key_of (drop l.i l.a)) (map key_of (drop l.i l.b)) ≡ pointwise same_key (map key_of l.a) (map key_of l.b)
