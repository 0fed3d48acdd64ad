use Rattle.std.proofs.Common.{◌≡◌, ◌++◌, length}
use Rattle.wd_distinct_on.specs.Written.{all_placed}
use Rattle.wd_distinct_on.proofs.write.add_all_placed.Given as goal

abbrev pub invariant-loop-rest : goal.invariant-loop-rest
invariant-loop-rest l = l.written.items ++ all_placed l.rest l.fn.word ≡ l.initial.written.items ++ all_placed l.fn.tokens l.fn.word

abbrev pub decreases-loop-rest : goal.decreases-loop-rest
decreases-loop-rest l = length l.rest
