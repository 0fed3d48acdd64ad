use Rattle.std.proofs.Common.{map, take}
use Rattle.std.specs.Prelude.{All}
use Rattle.wd_nodes.specs.Marked.{Reads}
use Rattle.wd_plan.specs.Expressions.{expression_of}
use Rattle.wd_nodes.proofs.marked.columns_read.Given as goal

abbrev pub invariant-loop-output : goal.invariant-loop-output
invariant-loop-output l = All (Reads l.marks.items) (map expression_of (take l.output-index l.outputs))
