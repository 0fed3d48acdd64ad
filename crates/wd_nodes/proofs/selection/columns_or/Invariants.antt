use Rattle.std.proofs.Common.{map, take}
use Rattle.std.specs.List.{AllZip}
use Rattle.wd_plan.specs.Expressions.{expression_of}
use Rattle.wd_nodes.specs.Selected.{IsColumnOr}
use Rattle.wd_nodes.proofs.selection.columns_or.Given as goal

abbrev pub invariant-loop-output : goal.invariant-loop-output
invariant-loop-output l = AllZip (IsColumnOr l.past) (map expression_of (take l.output-index l.outputs)) l.columns.items
