use Rattle.std.proofs.Common.{◌≡◌, drop, map}
use Rattle.wd_resolve_list.specs.SelectLists.{all_references, projected_shown, projected_with}
use Rattle.wd_resolve_list.specs.Outputs.{expressions_of, output_of}
use Rattle.wd_resolve_list.proofs.projected.ProjectedInputs.add_each.Given as goal

abbrev pub invariant-loop-output : goal.invariant-loop-output
invariant-loop-output l = projected_with (projected_shown l.self) (all_references (expressions_of (map output_of (drop l.output-index l.outputs)))) ≡ projected_with (projected_shown l.initial.self) (all_references (expressions_of (map output_of l.outputs)))
