-- Where the wrong orderings of a plan can stand, and why a choice is refused by the first.
use Rattle.std.proofs.Common.{◌≡◌, ℕ, ◌+◌, ◌<◌, ◌≤◌, List, take, drop, length, inl, inr, ap, subst, arith, length-drop, drop-drop}
use Rattle.wd_value.specs.Rows.{Instance}
use Rattle.wd_plan.specs.Choices.{AreLawful, AreOrderingsOver}
use Rattle.wd_plan.specs.Outcomes.{outcome}
use Rattle.wd_plan.specs.Plans.{PlanTree, Scan, Join, Over, step_classes, ordering_count, own_orderings}
use Rattle.wd_eval.specs.Windows.{AreServed, IsLeast}
use Rattle.wd_eval.proofs.Serving.{class_served}
use Rattle.wd_eval.specs.Laws.{HasNoWrongOrdering}
use Rattle.wd_eval.specs.Judged.{IsRefusedWithin}
use Rattle.wd_eval.specs.Nodes.{IsServed, IsStopped}
use Rattle.wd_eval.specs.Wrong.{IsWrongFrom, IsWrongOrdering}
use Rattle.wd_eval.specs.declared.error.EvalError.{EvalError}
use Rattle.wd_eval.specs.declared.error.EvalError.TheVariants.{NotValid, TooManyRows, OutOfMemory}

module _ (instance : Instance) (choice : List (List ℕ)) (place : ℕ) where
  -- their numbers are those of the plan's orderings
  pub wrong_within : (plan : PlanTree) (first : ℕ) → IsWrongFrom plan instance choice first place → (first ≤ place) × (place < first + ordering_count plan)
  wrong_within (Scan table columns) first w = absurd w
  wrong_within (Join condition left right) first (inl w) = let range = wrong_within left first w in let a = range.0 in let b = range.1 in (a, omega arith)
  wrong_within (Join condition left right) first (inr w) = let range = wrong_within right (first + ordering_count left) w in let a = range.0 in let b = range.1 in (omega arith, omega arith)
  wrong_within (Over step input) first (inl w) = let range = wrong_within input first w in let a = range.0 in let b = range.1 in (a, omega arith)
  wrong_within (Over step input) first (inr w) = let at = w.wrong.0 in let small = w.within in (omega arith, omega arith)

  -- where all of them are there and lawful, there is none
  pub none_wrong : (plan : PlanTree) (first : ℕ) → ordering_count plan ≤ length (drop first choice) → AreLawful plan instance (drop first choice) → IsWrongFrom plan instance choice first place → ⊥
  none_wrong (Scan table columns) first h s w = w
  none_wrong (Join condition left right) first h s (inl w) = none_wrong left first (omega arith) s.0 w
  none_wrong (Join condition left right) first h s (inr w) =
      let whole = length-drop first choice in
      let after = length-drop (first + ordering_count left) choice in
      none_wrong right (first + ordering_count left) (omega arith) (subst (AreLawful right instance) (drop-drop (ordering_count left) first choice) s.1) w
  none_wrong (Over step input) first h s (inl w) = none_wrong input first (omega arith) s.0 w
  none_wrong (Over step input) first h s (inr w) = w.wrong.1 (class_served (step_classes step) (outcome input instance (drop first choice)) choice (first + ordering_count input) w.number served w.within)
    where
      here : own_orderings step input (drop first choice) ≡ take (length (step_classes step)) (drop (first + ordering_count input) choice)
      here = ap (take (length (step_classes step))) (drop-drop (ordering_count input) first choice)

      served : AreServed (step_classes step) (outcome input instance (drop first choice)) choice (first + ordering_count input)
      served = record {
        present = (let whole = length-drop first choice in let some = w.within in omega arith);
        lawful = subst (AreOrderingsOver (step_classes step) (outcome input instance (drop first choice))) here s.1;
      }

-- ---- whole plans

module _ (plan : PlanTree) (instance : Instance) (choice : List (List ℕ)) where
  pub stopped_refused : (most : ℕ) (e : EvalError) → IsStopped most plan instance choice 0 e → IsRefusedWithin most plan instance choice e
  stopped_refused most (NotValid p) h = (
    inl h.0,
    λ m earlier x. elim x [
      | inl y ↦ h.1 m earlier y
      | inr y ↦ (let past = y.0 in let within = (wrong_within instance choice p plan 0 h.0).1 in omega arith)
    ],
  )
  stopped_refused most TooManyRows h = h
  stopped_refused most OutOfMemory h = tt

  -- an ordering left over, after those that the plan has
  pub surplus_refused : (p : ℕ) → IsServed plan instance choice → p ≡ ordering_count plan → p < length choice → IsLeast (IsWrongOrdering plan instance choice) p
  surplus_refused p s e lt = (
    inr (omega arith, lt),
    λ m earlier x. elim x [
      | inl y ↦ none_wrong instance choice m plan 0 s.present s.lawful y
      | inr y ↦ (let past = y.0 in omega arith)
    ],
  )

-- a valid choice has none
pub has_no_wrong_ordering : HasNoWrongOrdering
has_no_wrong_ordering plan instance choice place (inl w) v = none_wrong instance choice place plan 0 (let long = v.number in omega arith) v.lawful w
has_no_wrong_ordering plan instance choice place (inr w) v = let long = v.number in let least = w.0 in let most = w.1 in omega arith
