use Rattle.std.proofs.Common.{get_or}
use Rattle.wd_sort.specs.Codes.{pair_code}
use Rattle.wd_sort.proofs.Rewriting.{Rewritten}
use Rattle.wd_sort.proofs.coding.pair.Given as goal

abbrev pub invariant-loop-k : goal.invariant-loop-k
invariant-loop-k l = Rewritten (λ k. pair_code l.others.bound (get_or l.fn.first.codes.items k 0) (get_or l.others.codes.items k 0)) l.fn.first.codes.items l.k l.codes.items
