-- The result of one evaluation, and what the evaluations after the first one show.
use Rattle.std.specs.Prelude.{◌≡◌, ◌⊎◌, ℕ, ◌+◌, ◌<◌, List, [], ◌∷◌, Option, Some, None, IfSome}
use Rattle.wd_value.specs.Rows.{Instance}
use Rattle.wd_plan.specs.Outcomes.{Agree, RowsOrFault, outcome}
use Rattle.wd_plan.specs.Plans.{PlanTree, ordering_count}
use Rattle.wd_eval.specs.Windows.{orderings_of}
use Rattle.wd_eval.specs.Tied.{IsTurnedTooLarge, IsValidTurnedChoice, turned_at}
use Rattle.wd_eval.specs.declared.turned.Turned.{Turned}
use Rattle.wd_partition.specs.declared.turn.Turn.{Turn}
use Rattle.wd_plan.specs.declared.plan.Choice.{Choice}
use Rattle.wd_seek.specs.Evaluations.{AllPass, IsTooLargeAt, most_evaluations}
use Rattle.wd_seek.specs.Search.{FindsNothing, FindsTwo}
use Rattle.wd_seek.specs.declared.evaluated.Evaluated.{Evaluated}
use Rattle.wd_seek.specs.declared.probed.Pair.{Pair}
use Rattle.wd_seek.specs.declared.trailed.First.{First}
use Rattle.wd_trail.specs.Trails.{IsTrail}

-- the outcome under a choice that keeps tied rows in their order, or turns an ordering
pub record IsStableOutcome (plan : PlanTree) (instance : Instance) (turned : Option Turned) (choice : List (List ℕ)) (o : RowsOrFault) : Type 0 where
  pub valid : IsValidTurnedChoice plan instance turned choice
  pub is : o ≡ outcome plan instance choice

-- an evaluation returns such a choice and the outcome under it, or nothing where a step is too large
abbrev pub IsEvaluated : PlanTree → Instance → Option Turned → Option Evaluated → Type 0
IsEvaluated plan instance turned None = IsTurnedTooLarge plan instance turned
IsEvaluated plan instance turned (Some e) = IsStableOutcome plan instance turned (orderings_of e.choice.orderings.items) e.outcome

-- the outcome is that of the first evaluation
pub record IsFirst (plan : PlanTree) (instance : Instance) (o : RowsOrFault) : Type 0 where
  pub choice : List (List ℕ)
  pub tied : IsStableOutcome plan instance None choice o

-- what is kept of the first evaluation: its outcome, and the rows of the plan's nodes if there
pub record IsKeptOf (plan : PlanTree) (instance : Instance) (first : First) : Type 0 where
  pub outcome : IsFirst plan instance first.outcome
  pub trail : IfSome first.trail (λ t. IsTrail t plan instance)

-- the outcome agrees with this one where the ordering with this number is turned
pub record IsAgreeing (turn : Turn) (plan : PlanTree) (instance : Instance) (o : RowsOrFault) (number : ℕ) : Type 0 where
  pub choice : List (List ℕ)
  pub valid : IsValidTurnedChoice plan instance (Some (turned_at turn number)) choice
  pub agree : Agree o (outcome plan instance choice)

-- the given number of evaluations after the first show nothing: all were made, the last one had a step that is too large, or the most
-- evaluations were made
abbrev pub ShowNoOther : Turn → PlanTree → Instance → ℕ → ℕ → Type 0
ShowNoOther turn plan instance made end =
    ((made ≡ ordering_count plan) × AllPass turn plan instance (made + 1))
    ⊎ (IsTooLargeAt turn plan instance made
    ⊎ ((end ≡ most_evaluations) × (made < ordering_count plan) × AllPass turn plan instance (made + 1)))

-- a valid choice that turns this ordering, the first under which the outcome does not agree with the given one
pub record IsAnother (turn : Turn) (plan : PlanTree) (instance : Instance) (o : RowsOrFault) (flipped : ℕ) (choice : List (List ℕ)) : Type 0 where
  pub within : flipped < ordering_count plan
  pub passed : AllPass turn plan instance (flipped + 1)
  pub valid : IsValidTurnedChoice plan instance (Some (turned_at turn flipped)) choice
  pub differ : ¬ Agree o (outcome plan instance choice)

-- the evaluations show nothing, or the last one has another outcome than the first
abbrev pub IsOther : Turn → PlanTree → Instance → RowsOrFault → ℕ → ℕ → Option Choice → Type 0
IsOther turn plan instance o start end None = (made : ℕ) × (end ≡ start + made) × ShowNoOther turn plan instance made end
IsOther turn plan instance o start end (Some choice) = (flipped : ℕ) × (end ≡ start + (flipped + 1)) × IsAnother turn plan instance o flipped (orderings_of choice.orderings.items)

-- what the evaluations of one candidate show
abbrev pub IsProbed : Turn → PlanTree → Instance → ℕ → ℕ → Option Pair → Type 0
IsProbed turn plan instance start end None = FindsNothing turn plan (instance ∷ []) start end
IsProbed turn plan instance start end (Some pair) = FindsTwo turn plan (instance ∷ []) start end instance (orderings_of pair.first.orderings.items) (orderings_of pair.second.orderings.items)
