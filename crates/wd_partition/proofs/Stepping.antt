-- What the steps say of neighbours.
use Rattle.std.proofs.Common.{◌≡◌, ◌∙◌, ℕ, zero, suc, ◌+◌, ◌<◌, true, false, List, ◌++◌, get_or, length, refl, sym, ap, subst, arith, Ordering, Less, Equal, Greater, Some, None}
use Rattle.std.specs.Prelude.{IsSorted}
use Rattle.std.specs.Ordering.{is_eq, is_lt, ordering_reverse, ordering_then}
use Rattle.std.proofs.lemmas.List.{get_or_default}
use Rattle.wd_value.specs.Rows.{Row, row_at}
use Rattle.wd_value.specs.declared.order.SortColumn.{SortColumn}
use Rattle.wd_value.proofs.KeyLaws.{compare_keys_total}
use Rattle.wd_sort.specs.Sorting.{compare_rows_at}
use Rattle.wd_sort.proofs.TwoSorts.{compare_keys-append}
use Rattle.wd_partition.specs.Steps.{AreSteps, begins_partition, step_by, step_to}
use Rattle.wd_partition.specs.declared.steps.Step.{Step}
use Rattle.wd_partition.specs.declared.steps.Step.TheVariants.{Group, Partition, Peer}

-- ---- where a partition begins

begins_by : (o p : Ordering) (step : Step) → step_by o p ≡ Some step → begins_partition step ≡ true → is_eq o ≡ false
begins_by Less p step h b = refl
begins_by Greater p step h b = refl
begins_by Equal Less step h b = absurd (let is : Group ≡ step = cc in let no : begins_partition step ≡ false = sym (ap begins_partition is) in cc)
begins_by Equal Equal step h b = absurd (let is : Peer ≡ step = cc in let no : begins_partition step ≡ false = sym (ap begins_partition is) in cc)
begins_by Equal Greater step h b = cc

goes_on_by : (o p : Ordering) (step : Step) → step_by o p ≡ Some step → begins_partition step ≡ false → is_eq o ≡ true
goes_on_by Less p step h b = absurd (let is : Partition ≡ step = cc in let yes : begins_partition step ≡ true = sym (ap begins_partition is) in cc)
goes_on_by Greater p step h b = absurd (let is : Partition ≡ step = cc in let yes : begins_partition step ≡ true = sym (ap begins_partition is) in cc)
goes_on_by Equal p step h b = refl

module _ (R K : ℕ → ℕ → Ordering) (list : List ℕ) where
  pub begins : (k : ℕ) (step : Step) → step_to R K list (k + 1) ≡ Some step → begins_partition step ≡ true → is_eq (R (get_or list k 0) (get_or list (k + 1) 0)) ≡ false
  begins k step h b = let e : suc k ≡ k + 1 = omega arith in subst (λ j. is_eq (R (get_or list k 0) (get_or list j 0)) ≡ false) e (begins_by (R (get_or list k 0) (get_or list (suc k) 0)) (K (get_or list k 0) (get_or list (suc k) 0)) step (subst (λ j. step_to R K list j ≡ Some step) (sym e) h) b)

  pub goes_on : (k : ℕ) (step : Step) → step_to R K list (k + 1) ≡ Some step → begins_partition step ≡ false → is_eq (R (get_or list k 0) (get_or list (k + 1) 0)) ≡ true
  goes_on k step h b = let e : suc k ≡ k + 1 = omega arith in subst (λ j. is_eq (R (get_or list k 0) (get_or list j 0)) ≡ true) e (goes_on_by (R (get_or list k 0) (get_or list (suc k) 0)) (K (get_or list k 0) (get_or list (suc k) 0)) step (subst (λ j. step_to R K list j ≡ Some step) (sym e) h) b)

  -- the first place goes on from none
  pub goes_on_later : (i : ℕ) (step : Step) → step_to R K list i ≡ Some step → begins_partition step ≡ false → 0 < i
  goes_on_later zero step h b = absurd (let is : Partition ≡ step = cc in let yes : begins_partition step ≡ true = sym (ap begins_partition is) in cc)
  goes_on_later (suc i) step h b = omega arith

-- ---- the keys are in order where each place has a step

firsts_by : (o p : Ordering) → is_lt (ordering_then o p) ≡ false → is_lt o ≡ false
firsts_by Less p h = h
firsts_by Equal p h = refl
firsts_by Greater p h = refl

rises_by : (o p q : Ordering) → q ≡ ordering_reverse (ordering_then o p) → is_lt (ordering_reverse o) ≡ false → (step : Step) → step_by o p ≡ Some step → is_lt q ≡ false
rises_by Less p q e low step h = ap is_lt e
rises_by Equal Less q e low step h = ap is_lt e
rises_by Equal Equal q e low step h = ap is_lt e
rises_by Equal Greater q e low step h = cc
rises_by Greater p q e low step h = absurd (let no : is_lt (ordering_reverse Greater) ≡ true = refl in cc)

falls_by : (o p q : Ordering) → q ≡ ordering_reverse (ordering_then o p) → step_by o p ≡ None → is_lt q ≡ true
falls_by Less p q e h = cc
falls_by Greater p q e h = cc
falls_by Equal Less q e h = cc
falls_by Equal Equal q e h = cc
falls_by Equal Greater q e h = ap is_lt e

module _ (firsts others : List SortColumn) (rows : List Row) (list : List ℕ) where
  abbrev by_firsts : ℕ → ℕ → Ordering
  by_firsts = compare_rows_at firsts rows

  abbrev by_others : ℕ → ℕ → Ordering
  by_others = compare_rows_at others rows

  abbrev by_all : ℕ → ℕ → Ordering
  by_all = compare_rows_at (firsts ++ others) rows

  back : (p q : ℕ) → by_all q p ≡ ordering_reverse (ordering_then (by_firsts p q) (by_others p q))
  back p q = (compare_keys_total (firsts ++ others)).antisymm (row_at rows q) (row_at rows p) ∙ ap ordering_reverse (compare_keys-append firsts others (row_at rows p) (row_at rows q))

  pub sorted_from_steps : (steps : List Step) → IsSorted by_firsts list → AreSteps by_firsts by_others list steps → IsSorted by_all list
  sorted_from_steps steps sorted are = λ k d low high. (
      let e : suc k ≡ k + 1 = omega arith in
      let here = get_or_default list k 0 d (omega arith) in
      let next = get_or_default list (k + 1) 0 d high in
      let p = get_or list k 0 in
      let q = get_or list (suc k) 0 in
      let step = get_or steps (suc k) Peer in
      let not_before : is_lt (ordering_reverse (by_firsts p q)) ≡ false = ap is_lt (sym ((compare_keys_total firsts).antisymm (row_at rows q) (row_at rows p))) ∙ ap (λ j. is_lt (by_firsts (get_or list j 0) p)) e ∙ sorted k 0 low high in
      let rises : is_lt (by_all q p) ≡ false = rises_by (by_firsts p q) (by_others p q) (by_all q p) (back p q) not_before step (are.each (suc k) Peer (omega arith)) in
      sym (λ t. is_lt (by_all (next t) (here t))) ∙ ap (λ j. is_lt (by_all (get_or list j 0) p)) (sym e) ∙ rises
      )

  pub none_from_sorted : (i : ℕ) → i < length list → step_to by_firsts by_others list i ≡ None → IsSorted by_all list → ⊥
  none_from_sorted zero low h sorted = cc
  none_from_sorted (suc k) low h sorted =
      let e : suc k ≡ k + 1 = omega arith in
      let p = get_or list k 0 in
      let q = get_or list (suc k) 0 in
      let falls : is_lt (by_all q p) ≡ true = falls_by (by_firsts p q) (by_others p q) (by_all q p) (back p q) h in
      let rises : is_lt (by_all q p) ≡ false = ap (λ j. is_lt (by_all (get_or list j 0) p)) e ∙ sorted k 0 (omega arith) (omega arith) in
      let no : true ≡ false = sym falls ∙ rises in
      cc

  -- what is sorted by all columns is sorted by the first ones
  pub sorted_by_firsts : IsSorted by_all list → IsSorted by_firsts list
  sorted_by_firsts sorted = λ k d low high. (
      let p = get_or list k d in
      let q = get_or list (k + 1) d in
      firsts_by (by_firsts q p) (by_others q p) (ap is_lt (sym (compare_keys-append firsts others (row_at rows q) (row_at rows p))) ∙ sorted k d low high))
