-- Sorted orderings are lawful.
use Rattle.std.proofs.Common.{◌≡◌, ℕ, ◌+◌, ◌<◌, ◌≤◌, List, [], length, take, drop, sym, ◌∙◌, subst, arith, length-drop, length-take, Option}
use Rattle.std.proofs.lemmas.List.{get_or-drop, get_or-take}
use Rattle.wd_value.specs.Rows.{Instance}
use Rattle.wd_plan.specs.Choices.{AreLawful}
use Rattle.wd_plan.specs.Outcomes.{class_among, ordering_at, outcome}
use Rattle.wd_plan.specs.Plans.{PlanTree, Scan, Join, Over, ordering_count, own_orderings, step_classes}
use Rattle.wd_eval.specs.Tied.{AreTied, IsSortedOver, turn_of}
use Rattle.wd_eval.specs.declared.turned.Turned.{Turned}
use Rattle.wd_eval.proofs.Putting.{lawful_all}

own_at : (choice : List (List ℕ)) (n m k : ℕ) → k < m → ordering_at (take m (drop n choice)) k ≡ ordering_at choice (n + k)
own_at choice n m k h = get_or-take m (drop n choice) k [] h ∙ get_or-drop n choice k []

length_own : (choice : List (List ℕ)) (n m : ℕ) → n + m ≤ length choice → length (take m (drop n choice)) ≡ m
length_own choice n m h = let a = length-take m (drop n choice) in let b = length-drop n choice in omega arith

module _ (instance : Instance) (turned : Option Turned) where
  pub tied_lawful : (plan : PlanTree) (first : ℕ) (choice : List (List ℕ)) → ordering_count plan ≤ length choice → AreTied plan instance turned first choice → AreLawful plan instance choice
  tied_lawful (Scan table columns) first choice h s = tt
  tied_lawful (Join condition left right) first choice h s =
      let n = ordering_count left in
      let long = length-drop n choice in
      (tied_lawful left first choice (omega arith) s.0, tied_lawful right (first + n) (drop n choice) (omega arith) s.1)
  tied_lawful (Over step input) first choice h s =
      let n = ordering_count input in
      let m = length (step_classes step) in
      let IsOwn = λ (k : ℕ) (ordering : List ℕ). IsSortedOver (class_among (step_classes step) k) (turn_of turned (first + n + k)) (outcome input instance choice) ordering in (
        tied_lawful input first choice (omega arith) s.0,
        lawful_all (step_classes step) (outcome input instance choice) turned (first + n) (own_orderings step input choice)
            (record { long = length_own choice n m h; each = λ k l. subst (IsOwn k) (sym (own_at choice n m k l)) (s.1 k l) }),
      )
