use Rattle.std.proofs.Common.{◌≡◌, ◌++◌, length, map}
use Rattle.wd_grouping.specs.Replaced.{replaced}
use Rattle.std.specs.Prelude.{option_map}
use Rattle.wd_grouping.specs.Named.{group_key}
use Rattle.wd_grouping.proofs.replace.add_replaced.Given as goal

abbrev pub invariant-loop-rest : goal.invariant-loop-rest
invariant-loop-rest l = l.written.items ++ replaced (map group_key l.fn.keys) (option_map (λ table. table.now) l.fn.table) l.passed l.last l.rest ≡ l.initial.written.items ++ replaced (map group_key l.fn.keys) (option_map (λ table. table.now) l.fn.table) 0 l.fn.before l.fn.tokens

abbrev pub decreases-loop-rest : goal.decreases-loop-rest
decreases-loop-rest l = length l.rest
