-- Columns that tie, whose candidates show nothing.
use Rattle.std.specs.Prelude.{ℕ, All, List, filter, map}
use Rattle.wd_candidates.specs.Candidates.{candidate, shapes}
use Rattle.wd_candidates.specs.Outlines.{AreTied}
use Rattle.wd_candidates.specs.Tied.{NodeColumns}
use Rattle.wd_candidates.specs.declared.tied.TiedColumns.{TiedColumns}
use Rattle.wd_partition.specs.declared.turn.Turn.TheVariants.{Reversed}
use Rattle.wd_plan.specs.Plans.{PlanTree}
use Rattle.wd_schema.specs.Tables.{TableRule}
use Rattle.wd_seek.specs.Evaluations.{ShowNothing}
use Rattle.wd_seek.specs.Search.{FindsNothing}
use Rattle.wd_seek.specs.Sought.{is_meeting}
use Rattle.wd_seek.specs.declared.passed.Passed.{Passed}

-- the candidates for these columns show nothing, in the given number of evaluations
abbrev pub HavePassed : List TableRule → PlanTree → TiedColumns → ℕ → Type 0
HavePassed tables plan tied n = (o : NodeColumns) → AreTied tables o tied → ShowNothing Reversed plan (filter (is_meeting tables) (map (candidate tables plan o) shapes)) n

abbrev pub ArePassed : List TableRule → PlanTree → List Passed → Type 0
ArePassed tables plan passed = All (λ p. HavePassed tables plan p.tied p.evaluations) passed

-- a search through the candidates for these columns finds nothing
abbrev pub ShowNothingTo : List TableRule → PlanTree → TiedColumns → ℕ → ℕ → Type 0
ShowNothingTo tables plan tied start end = (o : NodeColumns) → AreTied tables o tied → FindsNothing Reversed plan (filter (is_meeting tables) (map (candidate tables plan o) shapes)) start end
