use Rattle.std.proofs.Common.{◌≡◌, drop}
use lib.Pointwise.{pointwise}
use Rattle.wd_resolve_select.specs.Steps.{same_item}
use Rattle.wd_resolve_select.proofs.steps.same_items.Given as goal

abbrev pub invariant-loop-i : goal.invariant-loop-i
invariant-loop-i l = pointwise same_item (drop l.i l.a) (drop l.i l.b) ≡ pointwise same_item l.a l.b
