-- Claims: their closings, and that their columns are a node's own.
use Rattle.std.proofs.Common.{◌≡◌, ℕ, ◌+◌, ◌≤◌, Bool, true, false, cond, List, [], ◌∷◌, ◌++◌, filter, length, map, arith, refl, sym, subst, Option, Some, None}
use Rattle.std.specs.List.{AllByRecursion}
use Rattle.wd_plan.specs.Expressions.{Expression}
use Rattle.wd_plan.specs.Fits.{AreBelow, width}
use Rattle.wd_plan.specs.Plans.{Step, Filter, Map, Group, Window, Distinct, Limit, PlanTree, Scan, Join, Over}
use Rattle.wd_step_facts.specs.Facts.{Fact, FactList}
use Rattle.wd_step_facts.specs.Steps.{if_copied}
use Rattle.wd_facts.specs.Laws.{AreOfChildren, ArePlain}
use Rattle.wd_facts.proofs.KeyRanges.{wider}
use Rattle.wd_facts.proofs.Lists.{all_append}
use Rattle.wd_facts.proofs.UsedBelow.{below_append}
use Rattle.wd_analyse.specs.Evidence.{Closing, IsClosing}
use Rattle.wd_analyse.specs.Sources.{AreClosings, Keeps, columns_in, distinct, gives_some, is_tried, left_sides, outputs_in, outputs_of, sources, starts, unions, unions_at, unions_with}
use Rattle.wd_analyse.proofs.Named.{below_shifted}
use Rattle.wd_analyse.proofs.Outputs.{outputs_low, plain_low}
use Rattle.wd_analyse.proofs.Valid.{AreClaims, IsClaim}

pub closings_more : (facts : FactList) (cs : List Closing) (c : Closing) → AreClosings facts cs → IsClosing facts c → AreClosings facts (cs ++ c ∷ [])
closings_more facts cs c a is = all_append (IsClosing facts) cs (c ∷ []) a (is, tt)

-- ---- sources are a node's own columns

abbrev AreLow : ℕ → List (List ℕ) → Type 0
AreLow n Xs = AllByRecursion (AreBelow n) Xs

module _ (outputs : List Expression) (width : ℕ) (h : length outputs ≤ width) where
  one_low : (o : Option (List ℕ)) (Xs : List (List ℕ)) → ((Y : List ℕ) → o ≡ Some Y → AreBelow width Y) → AreLow width Xs → AreLow width (if_copied o Xs)
  one_low None Xs f a = a
  one_low (Some Y) Xs f a = (f Y refl, a)

  left_low : (facts : List Fact) → AreLow width (left_sides outputs width facts)
  left_low [] = tt
  left_low (fact ∷ facts) = one_low (outputs_of outputs width (columns_in fact.from)) (left_sides outputs width facts) (λ Y e. outputs_low outputs width (columns_in fact.from) Y h e) (left_low facts)

module _ (a b : ℕ) where
  with_low : (X : List ℕ) → AreBelow a X → (more : List Fact) → ArePlain b more → AreLow (a + b) (unions_with X a more)
  with_low X e [] p = tt
  with_low X e (fact ∷ more) p =
      (below_append (a + b) X (map (λ c. a + c) (columns_in fact.from)) (wider a (a + b) (omega arith) X e) (below_shifted a b (a + b) (omega arith) (columns_in fact.from) (plain_low b fact p.0)), with_low X e more p.1)

  unions_low : (kept more : List Fact) → ArePlain a kept → ArePlain b more → AreLow (a + b) (unions kept a more)
  unions_low [] more p q = tt
  unions_low (fact ∷ kept) more p q = all_append (AreBelow (a + b)) (unions_with (columns_in fact.from) a more) (unions kept a more) (with_low (columns_in fact.from) (plain_low a fact p.0) more q) (unions_low kept more p.1 q)

sources_by : (plan : PlanTree) (facts kept more : List Fact) → length (outputs_in plan) ≤ width plan → AreLow (width plan) (unions_at plan kept more) → AreLow (width plan) (sources plan facts kept more)
sources_by plan facts kept more h u = all_append (AreBelow (width plan)) (left_sides (outputs_in plan) (width plan) facts) ([] ∷ unions_at plan kept more) (left_low (outputs_in plan) (width plan) h facts) (refl, u)

outputs_few : (step : Step) (input : PlanTree) → length (outputs_in (Over step input)) ≤ width (Over step input)
outputs_few (Filter condition) input = omega arith
outputs_few (Map outputs) input = omega arith
outputs_few (Window w) input = omega arith
outputs_few (Group g) input = omega arith
outputs_few Distinct input = omega arith
outputs_few (Limit limit) input = omega arith

pub sources_low : (plan : PlanTree) (facts kept more : List Fact) → AreOfChildren plan kept more → AreLow (width plan) (sources plan facts kept more)
sources_low (Scan table columns) facts kept more p = sources_by (Scan table columns) facts kept more (omega arith) tt
sources_low (Join condition left right) facts kept more p = sources_by (Join condition left right) facts kept more (omega arith) (unions_low (width left) (width right) kept more p.0 p.1)
sources_low (Over step input) facts kept more p = sources_by (Over step input) facts kept more (outputs_few step input) tt

-- ---- what is kept

distinct_low : (n : ℕ) (tried Xs : List (List ℕ)) → AreLow n Xs → AreLow n (distinct tried Xs)
distinct_low n tried [] a = tt
distinct_low n tried (X ∷ Xs) a = by (is_tried tried X) (distinct_low n tried Xs a.1) (distinct_low n (tried ++ X ∷ []) Xs a.1)
  where
    by : (b : Bool) → AreLow n (distinct tried Xs) → AreLow n (distinct (tried ++ X ∷ []) Xs) → AreLow n (cond b (distinct tried Xs) (X ∷ distinct (tried ++ X ∷ []) Xs))
    by true old new = old
    by false old new = (a.0, new)

front_low : (n : ℕ) (Xs Ys : List (List ℕ)) → AreLow n (Xs ++ Ys) → AreLow n Xs
front_low n [] Ys a = tt
front_low n (X ∷ Xs) Ys a = (a.0, front_low n Xs Ys a.1)

module _ (facts : FactList) (width : ℕ) where
  claims_in : (cs : List Closing) → AreClosings facts cs → AreLow width (starts cs) → AllByRecursion (IsClaim facts width) (filter (gives_some width) cs)
  claims_in [] a low = tt
  claims_in (c ∷ cs) a low = by (gives_some width c) (claims_in cs a.1 low.1)
    where
      by : (b : Bool) → AllByRecursion (IsClaim facts width) (filter (gives_some width) cs) → AllByRecursion (IsClaim facts width) (cond b (c ∷ filter (gives_some width) cs) (filter (gives_some width) cs))
      by true later = (record { closing = a.0; low = low.0 }, later)
      by false later = later

  pub are_claims : (Xs : List (List ℕ)) (cs : List Closing) → AreLow width Xs → Keeps facts width Xs cs → AreClaims facts width cs
  are_claims Xs cs low k = record {
    few = k.few;
    claims = subst (AllByRecursion (IsClaim facts width)) (sym k.kept)
        (claims_in k.tried k.closings (front_low width (starts k.tried) k.untried (subst (AreLow width) (sym k.order) (distinct_low width [] Xs low))));
  }
