use Rattle.std.proofs.Common.{All, Contains}
use Rattle.wd_join.specs.Matching.{AreWhole}
use Rattle.wd_join.proofs.matching.whole_columns.Given as goal

abbrev pub invariant-loop-column : goal.invariant-loop-column
invariant-loop-column l = All (λ c. Contains l.columns c × AreWhole c l.left l.right) l.whole.items
