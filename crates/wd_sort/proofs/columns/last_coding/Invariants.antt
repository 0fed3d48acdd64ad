use Rattle.std.proofs.Common.{◌<◌, drop, length}
use Rattle.wd_sort.specs.Codes.{IsCodingBelow}
use Rattle.wd_sort.proofs.columns.last_coding.Given as goal

abbrev pub invariant-loop-start : goal.invariant-loop-start
invariant-loop-start l = record {
  within : l.start < length l.columns;
  coding : IsCodingBelow (drop l.start l.columns) l.rows l.positions l.coding.bound l.coding.codes.items;
}

abbrev pub decreases-loop-start : goal.decreases-loop-start
decreases-loop-start l = l.start
