use Rattle.std.proofs.Common.{◌≤◌, max}
use Rattle.wd_traces.specs.Known.{IsBetween}
use Rattle.wd_traces.proofs.known.columns_between.Given as goal

abbrev pub invariant-loop-column : goal.invariant-loop-column
invariant-loop-column l = (l.from ≤ l.column) × (l.column ≤ max l.from l.to) × IsBetween l.from l.column l.set
