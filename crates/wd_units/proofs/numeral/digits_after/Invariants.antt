use Rattle.std.proofs.Common.{◌≡◌, length}
use Rattle.wd_units.specs.Numerals.{digits_after}
use Rattle.wd_units.proofs.numeral.digits_after.Given as goal

abbrev pub invariant-loop-rest : goal.invariant-loop-rest
invariant-loop-rest l = digits_after l.so_far l.rest ≡ digits_after l.number l.fn.text

abbrev pub decreases-loop-rest : goal.decreases-loop-rest
decreases-loop-rest l = length l.rest
