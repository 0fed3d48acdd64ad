use Rattle.std.proofs.Common.{◌≡◌, ◌++◌, length, map}
use Rattle.wd_grouping.specs.Written.{listed}
use Rattle.std.specs.Prelude.{option_map}
use Rattle.wd_grouping.specs.Named.{group_key}
use Rattle.wd_grouping.proofs.write.add_listed.Given as goal

abbrev pub invariant-loop-rest : goal.invariant-loop-rest
invariant-loop-rest l = l.written.items ++ listed (map group_key l.rest) (option_map (λ table. table.now) l.fn.table) l.fn.word ≡ l.initial.written.items ++ listed (map group_key l.fn.keys) (option_map (λ table. table.now) l.fn.table) l.fn.word

abbrev pub decreases-loop-rest : goal.decreases-loop-rest
decreases-loop-rest l = length l.rest
