use Rattle.std.proofs.Common.{◌≡◌, ◌-◌}
use Rattle.wd_moments.specs.Decimals.{units_of}
use Rattle.wd_moments.proofs.decimal.units_of.Given as goal

abbrev pub invariant-loop : goal.invariant-loop
invariant-loop l = units_of (l.scale - l.counter) l.units ≡ units_of l.scale l.number
