-- A choice of a step over a plan, from one of the plan.
use Rattle.std.proofs.Common.{◌≡◌, ℕ, ◌+◌, List, [], ◌++◌, length, take, drop, refl, sym, ◌∙◌, ap, subst, arith, Ok}
use Rattle.std.proofs.Math.Seq.{drop-append_seam}
use Rattle.std.proofs.lemmas.List.{length-append, take_all}
use Rattle.wd_value.specs.Rows.{Row, Instance}
use Rattle.wd_plan.specs.Plans.{Step, PlanTree, Scan, Over, step_classes, ordering_count, own_orderings}
use Rattle.wd_plan.specs.Faults.{and_then}
use Rattle.wd_plan.specs.Outcomes.{RowsOrFault, outcome, step_outcome}
use Rattle.wd_plan.specs.Choices.{AreLawful, AreOrderings, AreOrderingsOver, IsAnswerOf}
use Rattle.wd_plan.proofs.ChoiceLaws.{outcome-append, AreLawful-append}

-- what a step reads after the orderings of the nodes below it
pub own_orderings-after : (step : Step) (input : PlanTree) (below own : List (List ℕ)) → length below ≡ ordering_count input → length own ≡ length (step_classes step) → own_orderings step input (below ++ own) ≡ own
own_orderings-after step input below own n m =
    let seam : drop (ordering_count input) (below ++ own) ≡ own = subst (λ k. drop k (below ++ own) ≡ own) n (drop-append_seam below own) in
    ap (take (length (step_classes step))) seam ∙ take_all (length (step_classes step)) own (omega (arith, m))

pub AreLawful-over : (step : Step) (input : PlanTree) (instance : Instance) (below own : List (List ℕ)) → length below ≡ ordering_count input → length own ≡ length (step_classes step)
    → AreLawful input instance below → AreOrderingsOver (step_classes step) (outcome input instance below) own → AreLawful (Over step input) instance (below ++ own)
AreLawful-over step input instance below own n m lawful are =
    let kept : outcome input instance (below ++ own) ≡ outcome input instance below = outcome-append input instance below own (omega (arith, n)) in (
      AreLawful-append input instance below own (omega (arith, n)) lawful,
      subst (λ (r : RowsOrFault). AreOrderingsOver (step_classes step) r (own_orderings step input (below ++ own))) (sym kept)
          (subst (AreOrderingsOver (step_classes step) (outcome input instance below)) (sym (own_orderings-after step input below own n m)) are),
    )

pub IsAnswerOf-scan : (table columns : ℕ) (instance : Instance) → IsAnswerOf (Scan table columns) instance (outcome (Scan table columns) instance [])
IsAnswerOf-scan table columns instance = record { choice = []; valid = record { number = refl; lawful = tt }; is = refl }

pub IsAnswerOf-over : (step : Step) (input : PlanTree) (instance : Instance) (rows : List Row) (orderings : List (List ℕ)) → IsAnswerOf input instance (Ok rows) → AreOrderings (step_classes step) rows orderings → IsAnswerOf (Over step input) instance (step_outcome step orderings rows)
IsAnswerOf-over step input instance rows orderings below are =
    let choice = below.choice in
    let n : length choice ≡ ordering_count input = below.valid.number in
    let same : Ok rows ≡ outcome input instance (choice ++ orderings) = below.is ∙ sym (outcome-append input instance choice orderings (omega (arith, n))) in
    let own = own_orderings-after step input choice orderings n are.number in
    record {
      choice = choice ++ orderings;
      valid = record {
        number = length-append choice orderings ∙ omega (arith, n, are.number);
        lawful = AreLawful-over step input instance choice orderings n are.number below.valid.lawful (subst (λ (r : RowsOrFault). AreOrderingsOver (step_classes step) r orderings) below.is are);
      };
      is = (λ i. and_then (same i) (step_outcome step (sym own i)));
    }
