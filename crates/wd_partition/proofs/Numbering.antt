-- The partition of each of the positions sorted by partition is a range of them, along which the peer group number is counted.
use Rattle.std.proofs.Common.{◌≡◌, ℕ, zero, suc, ◌+◌, ◌-◌, ◌<◌, ◌≤◌, ◌⊎◌, inl, inr, Bool, true, false, cond, List, [], filter, take, drop, get_or, length, refl, sym, ◌∙◌, ap, subst, arith, Ordering, Less, Equal, Greater, Some}
use Rattle.std.specs.Ordering.{is_eq}
use Rattle.std.proofs.lemmas.List.{get_or-take, get_or-drop, get_or-map, length-drop, length-map, length-take}
use Rattle.wd_value.specs.Rows.{Row, columns_of, row_at, rows_at}
use Rattle.wd_sort.specs.Sorting.{compare_rows_at}
use Rattle.wd_plan.specs.Partitions.{GroupsRise, group_of, members, partition_of}
use Rattle.wd_plan.specs.Plans.{ClassRule}
use Rattle.wd_plan.specs.Sorting.{order_columns, same_partition}
use Rattle.wd_plan.proofs.Places as laws
use Rattle.wd_plan.proofs.Groups.{key_from_group}
use Rattle.wd_plan.proofs.GroupsRise.{peer_groups_rise}
use Rattle.wd_value.proofs.KeyLaws.{compare_keys-ties}
use Rattle.wd_plan.proofs.Parts.{same_partition_is}
use Rattle.wd_plan.proofs.SortedGroups.{tied_group}
use Rattle.wd_partition.specs.Columns.{partition_columns}
use Rattle.wd_partition.specs.Members.{own_group}
use Rattle.wd_partition.specs.Orderings.{IsGroupedOrdering}
use Rattle.wd_partition.specs.Runs.{ends_at, starts_at}
use Rattle.wd_partition.specs.Steps.{group_after, step_by, step_to}
use Rattle.wd_partition.specs.declared.steps.Step.{Step}
use Rattle.wd_partition.specs.declared.steps.Step.TheVariants.{Group, Partition, Peer}
use Rattle.wd_partition.proofs.ByColumns.{tie_is_partition}
use Rattle.wd_partition.proofs.IndexRanges.{end_over, rising, rows_total, same_start, start_here, start_within, tied_range}

module _ (class : ClassRule) (rows : List Row) (s : List ℕ) (grouped : IsGroupedOrdering class rows s) where
  abbrev pub by_partition : ℕ → ℕ → Ordering
  by_partition = compare_rows_at (partition_columns class.partition) rows

  abbrev by_keys : ℕ → ℕ → Ordering
  by_keys = compare_rows_at class.order rows

  abbrev pub start : ℕ → ℕ
  start p = starts_at by_partition s p

  abbrev pub end : ℕ → ℕ
  end p = ends_at by_partition s p

  -- the members of a position's partition are a range
  pub members_range : (p : ℕ) → members class rows s p ≡ take (end p - start p) (drop (start p) s)
  members_range p =
      let tests : (λ q. same_partition class (row_at rows p) (row_at rows q)) ≡ (λ q. is_eq (by_partition p q)) = λ i q. sym (tie_is_partition class.partition (row_at rows p) (row_at rows q)) i in
      ap (λ (t : ℕ → Bool). filter t s) tests ∙ tied_range by_partition (rows_total (partition_columns class.partition) rows) p s (rising by_partition (rows_total (partition_columns class.partition) rows) s grouped.sorted)

  pub start_low : (i : ℕ) → i < length s → start (get_or s i 0) ≤ i
  start_low i within = start_within by_partition (rows_total (partition_columns class.partition) rows) s grouped.sorted i within

  pub end_high : (i : ℕ) → i < length s → i < end (get_or s i 0)
  end_high i within = end_over by_partition (rows_total (partition_columns class.partition) rows) s grouped.sorted i within

  -- what stands at a place of a range
  range_at : (a n j : ℕ) → j < n → get_or (take n (drop a s)) j 0 ≡ get_or s (a + j) 0
  range_at a n j l = get_or-take n (drop a s) j 0 l ∙ get_or-drop a s j 0

  -- the number of members up to a place
  pub long_enough : (p i : ℕ) → i < length s → i < end p → start p ≤ i → i - start p < length (members class rows s p)
  long_enough p i within high low =
      subst (λ (l : List ℕ). i - start p < length l) (sym (members_range p)) (omega (arith, length-drop (start p) s, length-take (end p - start p) (drop (start p) s)))

  pub member_here : (p i : ℕ) → i < length s → i < end p → start p ≤ i → get_or (members class rows s p) (i - start p) 0 ≡ get_or s i 0
  member_here p i within high low =
      let at : start p + (i - start p) ≡ i = omega arith in
      ap (λ (l : List ℕ). get_or l (i - start p) 0) (members_range p) ∙ range_at (start p) (end p - start p) (i - start p) (omega arith) ∙ ap (λ k. get_or s k 0) at

  row_here : (p i : ℕ) → i < length s → i < end p → start p ≤ i → row_at (partition_of class rows s p) (i - start p) ≡ row_at rows (get_or s i 0)
  row_here p i within high low =
      get_or-map (row_at rows) (members class rows s p) (i - start p) 0 [] (long_enough p i within high low) ∙ ap (row_at rows) (member_here p i within high low)

  rises : (p : ℕ) → GroupsRise class (partition_of class rows s p)
  rises p = peer_groups_rise class rows s p grouped.lawful

  -- where a partition begins the number is 0
  first_is_0 : (i : ℕ) → i < length s → start (get_or s i 0) ≡ i → own_group class rows s (get_or s i 0) ≡ 0
  first_is_0 i within e =
      let p = get_or s i 0 in
      let part = partition_of class rows s p in
      let none : i - start p ≡ 0 = omega arith in
      let here : row_at part 0 ≡ row_at rows p = ap (row_at part) (sym none) ∙ row_here p i within (end_high i within) (start_low i within) in
      let long : 0 < length part = subst (λ n. 0 < n) (sym (length-map (members class rows s p) (row_at rows))) (let l = long_enough p i within (end_high i within) (start_low i within) in omega arith) in
      ap (group_of class part) (sym here) ∙ (rises p).first long

  -- ---- one place on, in one partition

  module _ (k : ℕ) (within : suc k < length s) (tie : is_eq (by_partition (get_or s k 0) (get_or s (suc k) 0)) ≡ true) where
    abbrev q : ℕ
    q = get_or s k 0

    abbrev p : ℕ
    p = get_or s (suc k) 0

    same_partition_rows : partition_of class rows s q ≡ partition_of class rows s p
    same_partition_rows =
        let is : same_partition class (row_at rows q) (row_at rows p) ≡ true = sym (tie_is_partition class.partition (row_at rows q) (row_at rows p)) ∙ tie in
        sym (ap (rows_at rows) (laws.same_members class rows s (row_at rows q) p (same_partition_is class (row_at rows q) (row_at rows p) is)))

    starts_low : start p ≤ k
    starts_low = subst (λ n. n ≤ k) (same_start by_partition (rows_total (partition_columns class.partition) rows) s q p tie) (start_low k (omega arith))

    same_group : own_group class rows s q ≡ group_of class (partition_of class rows s p) (row_at rows q)
    same_group = ap (λ (l : List Row). group_of class l (row_at rows q)) same_partition_rows

    at_k : row_at (partition_of class rows s p) (k - start p) ≡ row_at rows q
    at_k = row_here p k (omega arith) (let h = end_high (suc k) within in omega arith) starts_low

    place_next : suc k - start p ≡ k - start p + 1
    place_next = let l = starts_low in omega arith

    at_next : row_at (partition_of class rows s p) (k - start p + 1) ≡ row_at rows p
    at_next = ap (row_at (partition_of class rows s p)) (sym place_next) ∙ row_here p (suc k) within (end_high (suc k) within) (start_low (suc k) within)

    long_next : k - start p + 1 < length (partition_of class rows s p)
    long_next = subst (λ n. k - start p + 1 < n) (sym (length-map (members class rows s p) (row_at rows))) (subst (λ j. j < length (members class rows s p)) place_next (long_enough p (suc k) within (end_high (suc k) within) (start_low (suc k) within)))

    goes_up : is_eq (by_keys q p) ≡ false
        → (group_of class (partition_of class rows s p) (row_at (partition_of class rows s p) (k - start p + 1)) ≡ group_of class (partition_of class rows s p) (row_at (partition_of class rows s p) (k - start p)))
        ⊎ (group_of class (partition_of class rows s p) (row_at (partition_of class rows s p) (k - start p + 1)) ≡ group_of class (partition_of class rows s p) (row_at (partition_of class rows s p) (k - start p)) + 1)
        → own_group class rows s p ≡ own_group class rows s q + 1
    goes_up differs (inl e) =
        let keys : columns_of (order_columns class) (row_at (partition_of class rows s p) (k - start p)) ≡ columns_of (order_columns class) (row_at (partition_of class rows s p) (k - start p + 1)) = key_from_group class (partition_of class rows s p) (k - start p) (k - start p + 1) (let l = long_next in omega arith) long_next (sym e) in
        let same : columns_of (order_columns class) (row_at rows q) ≡ columns_of (order_columns class) (row_at rows p) = ap (columns_of (order_columns class)) (sym at_k) ∙ keys ∙ ap (columns_of (order_columns class)) at_next in
        let ties : by_keys q p ≡ Equal = compare_keys-ties class.order (row_at rows q) (row_at rows p) same in
        absurd (let yes : is_eq (by_keys q p) ≡ true = ap is_eq ties in cc)
    goes_up differs (inr e) =
        ap (group_of class (partition_of class rows s p)) (sym at_next) ∙ e ∙ ap (λ r. group_of class (partition_of class rows s p) r + 1) at_k ∙ ap (λ n. n + 1) (sym same_group)

    stays : is_eq (by_keys q p) ≡ true → own_group class rows s p ≡ own_group class rows s q
    stays e = tied_group class (partition_of class rows s p) (row_at rows q) (row_at rows p) (is_eq_Equal (by_keys q p) e) ∙ sym same_group
      where
        is_eq_Equal : (o : Ordering) → is_eq o ≡ true → o ≡ Equal
        is_eq_Equal Less f = cc
        is_eq_Equal Equal f = refl
        is_eq_Equal Greater f = cc

    by_key : (b : Bool) → is_eq (by_keys q p) ≡ b → cond b (own_group class rows s q) (own_group class rows s q + 1) ≡ own_group class rows s p
    by_key true e = sym (stays e)
    by_key false e = sym (goes_up e ((rises p).next (k - start p) long_next))

  by_tie : (k : ℕ) → suc k < length s → (b : Bool) → is_eq (by_partition (get_or s k 0) (get_or s (suc k) 0)) ≡ b
      → cond b (cond (is_eq (by_keys (get_or s k 0) (get_or s (suc k) 0))) (own_group class rows s (get_or s k 0)) (own_group class rows s (get_or s k 0) + 1)) 0 ≡ own_group class rows s (get_or s (suc k) 0)
  by_tie k within true e = by_key k within e (is_eq (by_keys (get_or s k 0) (get_or s (suc k) 0))) refl
  by_tie k within false e =
      sym (first_is_0 (suc k) within (start_here by_partition (rows_total (partition_columns class.partition) rows) s grouped.sorted (suc k) within (λ j l. let at : j ≡ k = omega arith in ap (λ m. is_eq (by_partition (get_or s m 0) (get_or s (suc k) 0))) at ∙ e)))

  by_step : (k group : ℕ) (step : Step) → suc k < length s → (o p : Ordering) → by_partition (get_or s k 0) (get_or s (suc k) 0) ≡ o → by_keys (get_or s k 0) (get_or s (suc k) 0) ≡ p → step_by o p ≡ Some step
      → group ≡ own_group class rows s (get_or s k 0) → group_after step group ≡ own_group class rows s (get_or s (suc k) 0)
  by_step k group step within Less p e f h g = let is : Partition ≡ step = cc in subst (λ t. group_after t group ≡ own_group class rows s (get_or s (suc k) 0)) is (by_tie k within false (ap is_eq e))
  by_step k group step within Greater p e f h g = let is : Partition ≡ step = cc in subst (λ t. group_after t group ≡ own_group class rows s (get_or s (suc k) 0)) is (by_tie k within false (ap is_eq e))
  by_step k group step within Equal Less e f h g =
      let is : Group ≡ step = cc in
      subst (λ t. group_after t group ≡ own_group class rows s (get_or s (suc k) 0)) is (ap (λ n. n + 1) g ∙ by_key k within (ap is_eq e) false (ap is_eq f))
  by_step k group step within Equal Equal e f h g =
      let is : Peer ≡ step = cc in
      subst (λ t. group_after t group ≡ own_group class rows s (get_or s (suc k) 0)) is (g ∙ by_key k within (ap is_eq e) true (ap is_eq f))
  by_step k group step within Equal Greater e f h g = cc

  -- counted from step to step, it is the number in the row's own partition
  pub group_next : (i group : ℕ) (step : Step) → i < length s → step_to by_partition by_keys s i ≡ Some step → ((k : ℕ) → k + 1 ≡ i → group ≡ own_group class rows s (get_or s k 0)) → group_after step group ≡ own_group class rows s (get_or s i 0)
  group_next zero group step within h before =
      let is : Partition ≡ step = cc in
      subst (λ t. group_after t group ≡ own_group class rows s (get_or s 0 0)) is (sym (first_is_0 0 within (let l = start_low 0 within in omega arith)))
  group_next (suc k) group step within h before =
      by_step k group step within (by_partition (get_or s k 0) (get_or s (suc k) 0)) (by_keys (get_or s k 0) (get_or s (suc k) 0)) refl refl h (before k (omega arith))
