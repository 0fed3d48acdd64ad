use Rattle.std.proofs.Common.{◌+◌, ◌*◌, get_or, length}
use Rattle.wd_sort.proofs.Rewriting.{Rewritten}
use Rattle.wd_sort.proofs.codes.pack.Given as goal

abbrev pub invariant-loop-place : goal.invariant-loop-place
invariant-loop-place l = Rewritten (λ k. get_or l.fn.codes.items k 0 * length l.fn.codes.items + k) l.fn.codes.items l.place l.numbers.items
