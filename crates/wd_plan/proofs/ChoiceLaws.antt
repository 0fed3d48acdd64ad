-- A plan reads the orderings of its own nodes alone, so a choice may be made longer.
use Rattle.std.proofs.Common.{◌≡◌, ℕ, ◌+◌, ◌≤◌, List, ◌++◌, length, take, drop, refl, sym, ◌∙◌, ap, subst, arith}
use Rattle.std.proofs.lemmas.List.{length-drop, take-append-le, drop-append-le}
use Rattle.wd_value.specs.Rows.{Instance}
use Rattle.wd_plan.specs.Plans.{Step, PlanTree, Scan, Join, Over, step_classes, ordering_count, own_orderings}
use Rattle.wd_plan.specs.Faults.{and_then}
use Rattle.wd_plan.specs.Outcomes.{RowsOrFault, outcome, join_outcome, step_outcome, pairs}
use Rattle.wd_plan.specs.Choices.{AreOrderingsOver, AreLawful}

-- a step's own orderings in a longer choice
own_orderings-append : (step : Step) (input : PlanTree) (choice more : List (List ℕ)) → ordering_count input + length (step_classes step) ≤ length choice → own_orderings step input (choice ++ more) ≡ own_orderings step input choice
own_orderings-append step input choice more h =
    let n = ordering_count input in
    let m = length (step_classes step) in
    let long : m ≤ length (drop n choice) = omega (arith, length-drop n choice) in
    ap (take m) (drop-append-le n choice more (omega arith)) ∙ take-append-le m (drop n choice) more long

right_enough : (choice : List (List ℕ)) (n m : ℕ) → n + m ≤ length choice → m ≤ length (drop n choice)
right_enough choice n m h = omega (arith, length-drop n choice)

-- the outcome is the same under a longer choice
pub outcome-append : (plan : PlanTree) (instance : Instance) (choice more : List (List ℕ)) → ordering_count plan ≤ length choice → outcome plan instance (choice ++ more) ≡ outcome plan instance choice
outcome-append (Scan table columns) instance choice more h = refl
outcome-append (Join condition left right) instance choice more h =
    let n = ordering_count left in
    let right_is : outcome right instance (drop n (choice ++ more)) ≡ outcome right instance (drop n choice) = ap (outcome right instance) (drop-append-le n choice more (omega arith)) ∙ outcome-append right instance (drop n choice) more (right_enough choice n (ordering_count right) h) in
    (λ i. and_then (outcome-append left instance choice more (omega arith) i) (λ ls. and_then (right_is i) (λ rs. join_outcome condition (pairs ls rs))))
outcome-append (Over step input) instance choice more h =
    (λ i. and_then (outcome-append input instance choice more (omega arith) i) (step_outcome step (own_orderings-append step input choice more h i)))

-- and its orderings stay lawful
pub AreLawful-append : (plan : PlanTree) (instance : Instance) (choice more : List (List ℕ)) → ordering_count plan ≤ length choice → AreLawful plan instance choice → AreLawful plan instance (choice ++ more)
AreLawful-append (Scan table columns) instance choice more h lawful = tt
AreLawful-append (Join condition left right) instance choice more h lawful =
    let n = ordering_count left in (
      AreLawful-append left instance choice more (omega arith) lawful.0,
      subst (AreLawful right instance) (sym (drop-append-le n choice more (omega arith))) (AreLawful-append right instance (drop n choice) more (right_enough choice n (ordering_count right) h) lawful.1),
    )
AreLawful-append (Over step input) instance choice more h lawful =
    let own = own_orderings-append step input choice more h in
    let below = outcome-append input instance choice more (omega arith) in (
      AreLawful-append input instance choice more (omega arith) lawful.0,
      subst (λ (r : RowsOrFault). AreOrderingsOver (step_classes step) r (own_orderings step input (choice ++ more))) (sym below)
          (subst (AreOrderingsOver (step_classes step) (outcome input instance choice)) (sym own) lawful.1),
    )
