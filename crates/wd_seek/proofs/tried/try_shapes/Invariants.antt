use Rattle.std.proofs.Common.{◌≤◌, ◌∷◌, [], take}
use Rattle.wd_partition.specs.declared.turn.Turn.TheVariants.{Reversed}
use Rattle.wd_plan.specs.Plans.{plan_of}
use Rattle.wd_schema.specs.Schemas.{schema_of}
use Rattle.wd_candidates.specs.Candidates.{candidate, shapes}
use Rattle.wd_candidates.specs.Tied.{NodeColumns}
use Rattle.wd_candidates.specs.Outlines.{AreTied}
use Rattle.wd_seek.specs.Evaluations.{most_evaluations}
use Rattle.wd_seek.specs.Search.{FindsNothing}
use Rattle.wd_seek.proofs.Trying.{tried_by}
use Rattle.wd_seek.proofs.tried.try_shapes.Given as goal

abbrev pub invariant-loop-shape : goal.invariant-loop-shape
invariant-loop-shape l = (l.total ≤ most_evaluations)
    × ((o : NodeColumns) → AreTied (schema_of l.schema) o l.tied → FindsNothing Reversed (plan_of l.plan) (tried_by (schema_of l.schema) (λ shape. candidate (schema_of l.schema) (plan_of l.plan) o shape ∷ []) (take l.shape-index shapes)) l.spent l.total)
