use Rattle.wd_group.specs.Numbered.{AreNumbersOfEach}
use Rattle.wd_group.proofs.numbered.column_numbers.Given as goal

abbrev pub invariant-loop-column : goal.invariant-loop-column
invariant-loop-column l = AreNumbersOfEach l.column l.rows l.found.items
