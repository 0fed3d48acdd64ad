use Rattle.std.proofs.Common.{◌≡◌, drop}
use Rattle.wd_varied.specs.Places.{is_equated}
use Rattle.wd_varied.proofs.place.is_equated.Given as goal

abbrev pub invariant-loop-equation : goal.invariant-loop-equation
invariant-loop-equation l = is_equated (drop l.equation-index l.equated) l.place ≡ is_equated l.equated l.place
