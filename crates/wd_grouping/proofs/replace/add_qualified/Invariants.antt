use Rattle.std.proofs.Common.{◌≡◌, ◌++◌, length}
use Rattle.std.specs.Prelude.{option_map}
use Rattle.wd_grouping.specs.Replaced.{qualified}
use Rattle.wd_grouping.proofs.replace.add_qualified.Given as goal

abbrev pub invariant-loop-rest : goal.invariant-loop-rest
invariant-loop-rest l = l.written.items ++ qualified (option_map (λ table. table.now) l.fn.table) l.rest ≡ l.initial.written.items ++ qualified (option_map (λ table. table.now) l.fn.table) l.fn.tokens

abbrev pub decreases-loop-rest : goal.decreases-loop-rest
decreases-loop-rest l = length l.rest
