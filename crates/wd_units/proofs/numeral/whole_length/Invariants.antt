use Rattle.std.proofs.Common.{◌≡◌, ◌+◌, length}
use Rattle.wd_units.specs.Numerals.{whole_from}
use Rattle.wd_units.proofs.numeral.whole_length.Given as goal

abbrev pub invariant-loop-rest : goal.invariant-loop-rest
invariant-loop-rest l = record {
  digits : whole_from l.count l.rest ≡ whole_from 0 l.fn.text;
  counted : l.count + length l.rest ≡ length l.fn.text;
}

abbrev pub decreases-loop-rest : goal.decreases-loop-rest
decreases-loop-rest l = length l.rest
