use Rattle.std.proofs.Common.{◌≡◌, drop}
use Rattle.wd_value.specs.Rows.{row_at}
use Rattle.wd_refute.specs.Numbers.{number_from}
use Rattle.wd_refute.proofs.numbers.number_of.Given as goal

abbrev pub invariant-loop-i : goal.invariant-loop-i
invariant-loop-i l = number_from l.number (drop l.i l.places) (drop l.i (row_at l.rows l.position)) ≡ number_from 0 l.places (row_at l.rows l.position)
