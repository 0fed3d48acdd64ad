use Rattle.std.proofs.Common.{◌≡◌, map, take}
use Rattle.wd_plan.specs.Expressions.{expression_of}
use Rattle.wd_candidates.specs.AllOrigins.{output_origin}
use Rattle.wd_candidates.proofs.origins.output_origins.Given as goal

abbrev pub invariant-loop-output : goal.invariant-loop-output
invariant-loop-output l = l.list.items ≡ map (output_origin l.origins) (map expression_of (take l.output-index l.outputs))
