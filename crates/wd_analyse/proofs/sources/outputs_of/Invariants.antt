use Rattle.std.proofs.Common.{◌≡◌, drop}
use Rattle.wd_analyse.specs.Steps.{copy_in, outputs_by}
use Rattle.wd_analyse.proofs.Outputs.{after}
use Rattle.wd_analyse.proofs.sources.outputs_of.Given as goal

abbrev pub invariant-loop-column : goal.invariant-loop-column
invariant-loop-column l = after l.list.items (outputs_by (copy_in l.copies) l.width (drop l.column-index l.columns)) ≡ outputs_by (copy_in l.copies) l.width l.columns
