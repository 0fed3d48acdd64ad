use Rattle.std.proofs.Common.{◌≡◌, take}
use Rattle.wd_varied.specs.Suggested.{values_for}
use Rattle.wd_varied.proofs.suggested.values_for.Given as goal

abbrev pub invariant-loop-one : goal.invariant-loop-one
invariant-loop-one l = l.values.items ≡ values_for l.table l.column l.kind (take l.one-index l.compared)
