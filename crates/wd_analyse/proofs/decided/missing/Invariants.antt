use Rattle.std.proofs.Common.{◌≡◌}
use Rattle.wd_analyse.specs.Evidence.{closing_of}
use Rattle.wd_analyse.proofs.Missing.{missing_from}
use Rattle.wd_analyse.proofs.decided.missing.Given as goal

abbrev pub invariant-loop-column : goal.invariant-loop-column
invariant-loop-column l = missing_from (closing_of l.closed).has l.column l.columns ≡ missing_from (closing_of l.closed).has 0 l.columns
