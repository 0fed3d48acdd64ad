use Rattle.std.proofs.Common.{get_or}
use Rattle.wd_sort.proofs.Rewriting.{Rewritten}
use Rattle.wd_sort.proofs.numbering.replace_numbers.Given as goal

abbrev pub invariant-loop-i : goal.invariant-loop-i
invariant-loop-i l = Rewritten (λ k. get_or l.elements (get_or l.fn.numbers.items k 0) 0) l.fn.numbers.items l.i l.found.items
