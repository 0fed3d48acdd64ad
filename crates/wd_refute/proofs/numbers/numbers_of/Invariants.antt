use Rattle.std.proofs.Common.{take}
use Rattle.wd_refute.specs.Numbers.{AreNumbers}
use Rattle.wd_refute.proofs.numbers.numbers_of.Given as goal

abbrev pub invariant-loop-i : goal.invariant-loop-i
invariant-loop-i l = AreNumbers l.places (take l.i l.rows) l.numbers.items
