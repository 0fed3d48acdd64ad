-- The evaluations of a candidate instance, and what they show.
use Rattle.std.specs.Prelude.{◌≡◌, ◌⊎◌, ℕ, zero, suc, ◌+◌, ◌<◌, List, [], ◌∷◌, Option, Some, None}
use Rattle.wd_value.specs.Rows.{Instance}
use Rattle.wd_plan.specs.Outcomes.{Agree, outcome}
use Rattle.wd_plan.specs.Plans.{PlanTree, ordering_count}
use Rattle.wd_eval.specs.Tied.{IsTurnedTooLarge, IsValidTurnedChoice, turned_at}
use Rattle.wd_eval.specs.declared.turned.Turned.{Turned}
use Rattle.wd_partition.specs.declared.turn.Turn.{Turn}

-- the most evaluations of a search
abbrev pub most_evaluations : ℕ
most_evaluations = 2000

-- the number of evaluations of a candidate: one under the choice that keeps tied rows in their order, and one for each ordering to turn
abbrev pub evaluations : PlanTree → ℕ
evaluations plan = ordering_count plan + 1

-- the ordering that the evaluation with this number turns
abbrev pub flip_of : Turn → ℕ → Option Turned
flip_of turn zero = None
flip_of turn (suc k) = Some (turned_at turn k)

-- the evaluation with this number shows nothing: it has an outcome, which agrees with that of the first
pub record Passes (turn : Turn) (plan : PlanTree) (instance : Instance) (k : ℕ) : Type 0 where
  pub first : List (List ℕ)
  pub choice : List (List ℕ)
  pub first_valid : IsValidTurnedChoice plan instance None first
  pub valid : IsValidTurnedChoice plan instance (flip_of turn k) choice
  pub agree : Agree (outcome plan instance first) (outcome plan instance choice)

-- the first evaluations show nothing
abbrev pub AllPass : Turn → PlanTree → Instance → ℕ → Type 0
AllPass turn plan instance n = (k : ℕ) → k < n → Passes turn plan instance k

-- the first evaluation with a step that is too large
pub record IsTooLargeAt (turn : Turn) (plan : PlanTree) (instance : Instance) (k : ℕ) : Type 0 where
  pub within : k < evaluations plan
  pub passed : AllPass turn plan instance k
  pub large : IsTurnedTooLarge plan instance (flip_of turn k)

-- a candidate shows nothing in the given number of evaluations: all of them, or those up to one with a step that is too large
abbrev pub ShowsNothing : Turn → PlanTree → Instance → ℕ → Type 0
ShowsNothing turn plan instance n = ((n ≡ evaluations plan) × AllPass turn plan instance n) ⊎ ((k : ℕ) × (n ≡ k + 1) × IsTooLargeAt turn plan instance k)

-- candidates show nothing, one after another, in the given number of evaluations
abbrev pub ShowNothing : Turn → PlanTree → List Instance → ℕ → Type 0
ShowNothing turn plan [] n = n ≡ 0
ShowNothing turn plan (instance ∷ instances) n = (a : ℕ) × (b : ℕ) × (n ≡ a + b) × ShowsNothing turn plan instance a × ShowNothing turn plan instances b

-- a candidate shows two answers: under the choice that keeps tied rows in their order and under the one that turns this ordering, the
-- first that shows another answer
pub record ShowsTwo (turn : Turn) (plan : PlanTree) (instance : Instance) (flipped : ℕ) (first second : List (List ℕ)) : Type 0 where
  pub within : flipped < ordering_count plan
  pub passed : AllPass turn plan instance (flipped + 1)
  pub first_valid : IsValidTurnedChoice plan instance None first
  pub second_valid : IsValidTurnedChoice plan instance (Some (turned_at turn flipped)) second
  pub differ : ¬ Agree (outcome plan instance first) (outcome plan instance second)
