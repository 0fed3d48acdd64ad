use Rattle.std.proofs.Common.{get_or}
use Rattle.wd_sort.specs.Codes.{position_in}
use Rattle.wd_sort.proofs.Rewriting.{Rewritten}
use Rattle.wd_sort.proofs.codes.unpack_wide.Given as goal

abbrev pub invariant-loop-i : goal.invariant-loop-i
invariant-loop-i l = Rewritten (λ k. position_in l.positions (get_or l.numbers k 0)) l.fn.codes.items l.i l.order.items
