-- What a plan gives where an ordering is turned, from what its nodes gave.
use Rattle.std.proofs.Common.{◌≡◌, ℕ, ◌+◌, ◌<◌, ◌≤◌, List, Option, Some, None, Ok, IfSome, subst, arith}
use Rattle.std.proofs.lemmas.Option.{IfSome_then}
use Rattle.wd_value.specs.Rows.{Row, Instance}
use Rattle.wd_plan.specs.Expressions.{Expression}
use Rattle.wd_plan.specs.Plans.{Step, PlanTree, Join, Over, ordering_count}
use Rattle.wd_partition.specs.declared.turn.Turn.{Turn}
use Rattle.wd_eval.specs.Tied.{turned_at}
use Rattle.wd_eval.specs.Turning.{IsStepUnder}
use Rattle.wd_trail.specs.Trails.{Gives, IsJoinOver, IsToldOver, IsTrail, rows_in}
use Rattle.wd_trail.specs.declared.trail.Trail.{Trail}
use Rattle.wd_trail.proofs.Giving.{earlier, gives_elsewhere, join_gives, later, step_after, step_turned}
use Rattle.wd_trail.proofs.Trails.{trail_gives}

-- what is so of the rows below makes something so of those above
told : (IsSo : List Row → List Row → Type 0) (IsBelow IsAbove : List Row → Type 0) (input found : Option (List Row)) → ((rows r : List Row) → IsBelow rows → IsSo rows r → IsAbove r) → IfSome input IsBelow → IsToldOver IsSo input found → IfSome found IsAbove
told IsSo IsBelow IsAbove input None both below over = tt
told IsSo IsBelow IsAbove input (Some r) both below over = both over.0 r (subst (λ o. IfSome o IsBelow) over.1 below) over.2

module _ (instance : Instance) (turn : Turn) (first number : ℕ) where
  abbrev GivesTurned : PlanTree → List Row → Type 0
  GivesTurned plan rows = Gives plan instance (Some (turned_at turn (first + number))) first rows

  -- an ordering below a step
  pub step_told : (step : Step) (input : PlanTree) (middle found : Option (List Row)) → number < ordering_count input → IfSome middle (GivesTurned input) → IsToldOver (λ rows r. IsStepUnder step rows None (Ok r)) middle found
      → IfSome found (GivesTurned (Over step input))
  step_told step input middle found below given over =
      let t = turned_at turn (first + number) in
      let before : first + number < first + ordering_count input = omega arith in
      told (λ rows r. IsStepUnder step rows None (Ok r)) (GivesTurned input) (GivesTurned (Over step input)) middle found (λ rows r g s. step_after instance t first step input rows r g before s) given over

  -- one of the step's own
  pub own_told : (class : ℕ) (step : Step) (input : PlanTree) (below : Trail) (found : Option (List Row)) → ordering_count input + class ≡ number → IsTrail below input instance
      → IfSome found (λ r. IsStepUnder step (rows_in below) (Some (turned_at turn class)) (Ok r)) → IfSome found (GivesTurned (Over step input))
  own_told class step input below found same trail own = IfSome_then found own (λ r s.
      subst (λ n. Gives (Over step input) instance (Some (turned_at turn (first + n))) first r) same (step_turned instance turn first class step input (rows_in below) r (trail_gives below input instance trail) s))

  module _ (condition : Option Expression) (left right : PlanTree) (middle found : Option (List Row)) where
    -- one of a Join's left side
    pub left_told : (on_right : Trail) → number < ordering_count left → IsTrail on_right right instance → IfSome middle (GivesTurned left) → IsToldOver (λ ls r. IsJoinOver condition ls (rows_in on_right) r) middle found
        → IfSome found (GivesTurned (Join condition left right))
    left_told on_right below trail given over =
        let t = turned_at turn (first + number) in
        let n = ordering_count left in
        let before : first + number < first + n = omega arith in
        let rs = gives_elsewhere instance (Some t) right 0 (first + n) (rows_in on_right) (earlier right t (first + n) before) (trail_gives on_right right instance trail) in
        told (λ ls r. IsJoinOver condition ls (rows_in on_right) r) (GivesTurned left) (GivesTurned (Join condition left right)) middle found
        (λ ls r g s. join_gives instance (Some t) first condition left right ls (rows_in on_right) r g rs s) given over

    -- one of its right side
    pub right_told : (rest : ℕ) (on_left : Trail) → ordering_count left + rest ≡ number → IsTrail on_left left instance
        → IfSome middle (Gives right instance (Some (turned_at turn (first + ordering_count left + rest))) (first + ordering_count left)) → IsToldOver (λ rs r. IsJoinOver condition (rows_in on_left) rs r) middle found
        → IfSome found (GivesTurned (Join condition left right))
    right_told rest on_left same trail given over =
        let n = ordering_count left in
        let t = turned_at turn (first + number) in
        let at : first + n + rest ≡ first + number = omega arith in
        let after : first + n ≤ first + number = omega arith in
        let ls = gives_elsewhere instance (Some t) left 0 first (rows_in on_left) (later left t first after) (trail_gives on_left left instance trail) in
        told (λ rs r. IsJoinOver condition (rows_in on_left) rs r) (λ rs. Gives right instance (Some (turned_at turn (first + n + rest))) (first + n) rs) (GivesTurned (Join condition left right)) middle found
        (λ rs r g s. join_gives instance (Some t) first condition left right (rows_in on_left) rs r ls (subst (λ m. Gives right instance (Some (turned_at turn m)) (first + n) rs) at g) s) given over
