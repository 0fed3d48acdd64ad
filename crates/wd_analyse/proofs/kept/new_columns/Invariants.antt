use Rattle.std.proofs.Common.{◌≡◌, ◌++◌}
use Rattle.wd_analyse.specs.Evidence.{closing_of}
use Rattle.wd_analyse.proofs.New.{new_from}
use Rattle.wd_analyse.proofs.kept.new_columns.Given as goal

abbrev pub invariant-loop-column : goal.invariant-loop-column
invariant-loop-column l = l.list.items ++ new_from (closing_of l.closed) l.column l.width ≡ new_from (closing_of l.closed) 0 l.width
