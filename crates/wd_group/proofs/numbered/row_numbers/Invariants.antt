use Rattle.std.proofs.Common.{take}
use Rattle.wd_sort.specs.Numbers.{AreNumbersBy}
use Rattle.wd_group.proofs.numbered.row_numbers.Given as goal

abbrev pub invariant-loop-i : goal.invariant-loop-i
invariant-loop-i l = AreNumbersBy (take l.i l.columns) l.rows l.joined.bound l.joined.codes.items
