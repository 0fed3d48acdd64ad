use Rattle.std.proofs.Common.{get_or}
use Rattle.wd_sort.specs.Codes.{position_in}
use Rattle.wd_sort.proofs.Rewriting.{Rewritten}
use Rattle.wd_sort.proofs.codes.unpack.Given as goal

abbrev pub invariant-loop-i : goal.invariant-loop-i
invariant-loop-i l = Rewritten (λ k. position_in l.positions (get_or l.fn.numbers.items k 0)) l.fn.numbers.items l.i l.order.items
