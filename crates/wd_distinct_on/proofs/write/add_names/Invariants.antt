use Rattle.std.proofs.Common.{◌≡◌, ◌++◌, length, map}
use Rattle.wd_distinct_on.specs.Named.{named_item}
use Rattle.wd_distinct_on.specs.Written.{names}
use Rattle.wd_distinct_on.proofs.write.add_names.Given as goal

abbrev pub invariant-loop-rest : goal.invariant-loop-rest
invariant-loop-rest l = l.written.items ++ names (map named_item l.rest) l.fn.word ≡ l.initial.written.items ++ names (map named_item l.fn.items) l.fn.word

abbrev pub decreases-loop-rest : goal.decreases-loop-rest
decreases-loop-rest l = length l.rest
