use Rattle.std.proofs.Common.{◌≡◌, ◌++◌, length}
use Rattle.wd_clauses.proofs.write.add_all.Given as goal

abbrev pub invariant-loop-rest : goal.invariant-loop-rest
invariant-loop-rest l = l.written.items ++ l.rest ≡ l.initial.written.items ++ l.fn.tokens

abbrev pub decreases-loop-rest : goal.decreases-loop-rest
decreases-loop-rest l = length l.rest
