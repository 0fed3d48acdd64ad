-- What a plain plan gives over two rows that tie by the window's columns.
use Rattle.std.proofs.Common.{◌≡◌, ◌⊎◌, inl, inr, ℕ, zero, suc, ◌+◌, ◌<◌, ◌≤◌, Bool, true, false, cond, ◌||◌, List, [], ◌∷◌, ◌++◌, get_or, length, map, refl, sym, ◌∙◌, ap, subst, arith, true≢false, Option, None, Some, Ok, pos, Equal}
use Rattle.std.proofs.lemmas.List.{length-map}
use Rattle.std.specs.Ordering.{is_lt}
use Rattle.wd_value.specs.declared.value.Value.{Value}
use Rattle.wd_value.specs.declared.value.Value.TheVariants.{Int}
use Rattle.wd_value.specs.declared.order.SortColumn.{SortColumn}
use Rattle.wd_value.specs.Bags.{SameBag, times}
use Rattle.wd_value.specs.Keys.{compare_keys, key_columns}
use Rattle.wd_value.specs.Rows.{Instance, Row, column_of, columns_of, same_row, table_at}
use Rattle.wd_value.specs.Values.{same}
use Rattle.wd_value.proofs.KeyLaws.{compare_keys-ties, same_row_self}
use Rattle.wd_sort.specs.Sorting.{IsStableSortOf}
use Rattle.wd_partition.specs.Columns.{given_positions, partition_columns, sort_columns}
use Rattle.wd_plan.specs.Expressions.{Column}
use Rattle.wd_plan.specs.Outcomes.{Agree, RowsOrFault, map_outcome, outcome, window_outcome}
use Rattle.wd_plan.specs.Faults.{and_then}
use Rattle.wd_join.specs.Joins.{has_more_rows}
use Rattle.wd_nodes.specs.Relation.{most_rows}
use Rattle.wd_plan.specs.Partitions.{members, place_in}
use Rattle.wd_plan.specs.Plans.{ClassRule, PlanTree, Over, Scan, Window}
use Rattle.wd_plan.specs.Sorting.{class_columns, order_columns, same_partition}
use Rattle.wd_nodes.proofs.Selected.{columns_outcome}
use Rattle.wd_eval.specs.Steps.{has_large_step}
use Rattle.wd_eval.specs.Tied.{IsSortedOver, IsStableChoice, reverse_at, turn_of}
use Rattle.wd_eval.proofs.Stable.{one_stable_sort}
use Rattle.wd_complete.specs.Plain.{PlainPlan, input_of, plan_by, window_rule}
use Rattle.wd_complete.proofs.Lists.{Among, among_front}
use Rattle.wd_complete.proofs.Candidate.{differ_at}

-- ---- rows that are the same on some columns

-- rows agree on some columns
abbrev pub Tie : List ℕ → Row → Row → Type 0
Tie X a b = (c : ℕ) → Among c X → column_of a c ≡ column_of b c

tie_self : (X : List ℕ) (a : Row) → Tie X a a
tie_self X a c at = refl

tie_back : (X : List ℕ) (a b : Row) → Tie X a b → Tie X b a
tie_back X a b h c at = sym (h c at)

pub columns_same : (X : List ℕ) (a b : Row) → Tie X a b → columns_of X a ≡ columns_of X b
columns_same [] a b h = refl
columns_same (x ∷ X) a b h = λ i. h x (inl refl) i ∷ columns_same X a b (λ c at. h c (inr at)) i

module _ (class : ClassRule) where
  partition_same : (a b : Row) → Tie (class_columns class) a b → same_partition class a b ≡ true
  partition_same a b h =
      let e = columns_same class.partition a b (λ c at. h c (among_front c class.partition (order_columns class) at)) in
      ap (same_row (columns_of class.partition a)) (sym e) ∙ same_row_self (columns_of class.partition a)

  keys_are : (X : List ℕ) → key_columns (partition_columns X) ≡ X
  keys_are [] = refl
  keys_are (x ∷ X) = ap (λ l. x ∷ l) (keys_are X)

  keys_append : (xs ys : List SortColumn) → key_columns (xs ++ ys) ≡ key_columns xs ++ key_columns ys
  keys_append [] ys = refl
  keys_append (x ∷ xs) ys = ap (λ l. x.column ∷ l) (keys_append xs ys)

  sort_columns_are : key_columns (sort_columns class) ≡ class_columns class
  sort_columns_are = keys_append (partition_columns class.partition) class.order ∙ ap (λ l. l ++ order_columns class) (keys_are class.partition)

  keys_tie : (a b : Row) → Tie (class_columns class) a b → compare_keys (sort_columns class) a b ≡ Equal
  keys_tie a b h = compare_keys-ties (sort_columns class) a b (columns_same (key_columns (sort_columns class)) a b (subst (λ X. Tie X a b) (sym sort_columns_are) h))

  -- ---- two rows that tie

  module _ (a b : Row) (tie : Tie (class_columns class) a b) where
    abbrev two : List Row
    two = a ∷ b ∷ []

    aa : same_partition class a a ≡ true
    aa = partition_same a a (tie_self (class_columns class) a)

    ab : same_partition class a b ≡ true
    ab = partition_same a b tie

    ba : same_partition class b a ≡ true
    ba = partition_same b a (tie_back (class_columns class) a b tie)

    bb : same_partition class b b ≡ true
    bb = partition_same b b (tie_self (class_columns class) b)

    kept : (p q : Bool) (i j : ℕ) → p ≡ true → q ≡ true → cond p (i ∷ cond q (j ∷ []) []) (cond q (j ∷ []) []) ≡ i ∷ j ∷ []
    kept true true i j e f = refl
    kept true false i j e f = absurd (true≢false (sym f))
    kept false q i j e f = absurd (true≢false (sym e))

    pub members_first : members class two (0 ∷ 1 ∷ []) 0 ≡ 0 ∷ 1 ∷ []
    members_first = kept (same_partition class a a) (same_partition class a b) 0 1 aa ab

    pub members_second : members class two (0 ∷ 1 ∷ []) 1 ≡ 0 ∷ 1 ∷ []
    members_second = kept (same_partition class b a) (same_partition class b b) 0 1 ba bb

    pub members_flipped_first : members class two (1 ∷ 0 ∷ []) 0 ≡ 1 ∷ 0 ∷ []
    members_flipped_first = kept (same_partition class a b) (same_partition class a a) 1 0 ab aa

    pub members_flipped_second : members class two (1 ∷ 0 ∷ []) 1 ≡ 1 ∷ 0 ∷ []
    members_flipped_second = kept (same_partition class b b) (same_partition class b a) 1 0 bb ba

    -- ---- their one stable sort

    never_less : (k : ℕ) (d : ℕ) → 0 ≤ k → k + 1 < 2 → (o : List ℕ) → (o ≡ 0 ∷ 1 ∷ []) ⊎ (o ≡ 1 ∷ 0 ∷ []) → is_lt (compare_keys (sort_columns class) (get_or two (get_or o (k + 1) d) []) (get_or two (get_or o k d) [])) ≡ false
    never_less zero d low high o (inl e) = subst (λ l. is_lt (compare_keys (sort_columns class) (get_or two (get_or l 1 d) []) (get_or two (get_or l 0 d) [])) ≡ false) (sym e) (ap is_lt (keys_tie b a (tie_back (class_columns class) a b tie)))
    never_less zero d low high o (inr e) = subst (λ l. is_lt (compare_keys (sort_columns class) (get_or two (get_or l 1 d) []) (get_or two (get_or l 0 d) [])) ≡ false) (sym e) (ap is_lt (keys_tie a b tie))
    never_less (suc k) d low high o e = absurd (omega (arith, high))

    stable : (o : List ℕ) → (o ≡ 0 ∷ 1 ∷ []) ⊎ (o ≡ 1 ∷ 0 ∷ []) → length o ≡ 2 → IsStableSortOf (sort_columns class) two o o
    stable o e long = record {
      rearranged = record { moves = []; below = tt; is = refl };
      sorted = λ k d low high. never_less k d low (subst (λ n. k + 1 < n) long high) o e;
      stable = λ x. refl;
    }

    pub the_sort : (o : List ℕ) → IsStableSortOf (sort_columns class) two (0 ∷ 1 ∷ []) o → o ≡ 0 ∷ 1 ∷ []
    the_sort o s = one_stable_sort (sort_columns class) two (0 ∷ 1 ∷ []) o (0 ∷ 1 ∷ []) s (stable (0 ∷ 1 ∷ []) (inl refl) refl)

    pub the_flipped_sort : (o : List ℕ) → IsStableSortOf (sort_columns class) two (1 ∷ 0 ∷ []) o → o ≡ 1 ∷ 0 ∷ []
    the_flipped_sort o s = one_stable_sort (sort_columns class) two (1 ∷ 0 ∷ []) o (1 ∷ 0 ∷ []) s (stable (1 ∷ 0 ∷ []) (inr refl) refl)

-- ---- the outcomes

-- a row with the number that it is given
abbrev pub numbered : Row → ℕ → Row
numbered a n = a ++ Int (pos n) ∷ []

module _ (p : PlainPlan) (a b : Row) (tie : Tie (class_columns p.class) a b) where
  pub window_first : window_outcome (window_rule p) (two p.class a b tie) ((0 ∷ 1 ∷ []) ∷ []) ≡ Ok (numbered a 1 ∷ numbered b 2 ∷ [])
  window_first = λ i. Ok (numbered a (place_in (members_first p.class a b tie i) 0 + 1) ∷ numbered b (place_in (members_second p.class a b tie i) 1 + 1) ∷ [])

  pub window_flipped : window_outcome (window_rule p) (two p.class a b tie) ((1 ∷ 0 ∷ []) ∷ []) ≡ Ok (numbered a 2 ∷ numbered b 1 ∷ [])
  window_flipped = λ i. Ok (numbered a (place_in (members_flipped_first p.class a b tie i) 0 + 1) ∷ numbered b (place_in (members_flipped_second p.class a b tie i) 1 + 1) ∷ [])

module _ (p : PlainPlan) (instance : Instance) (r q : Row) (rows : table_at instance p.table ≡ r ∷ q ∷ []) where
  abbrev a : Row
  a = columns_of p.read r

  abbrev b : Row
  b = columns_of p.read q

  abbrev scanned : PlanTree
  scanned = Scan p.table p.columns

  abbrev windowed : PlanTree
  windowed = Over (Window (window_rule p)) (input_of p)

  scan_outcome : (choice : List (List ℕ)) → outcome scanned instance choice ≡ Ok (r ∷ q ∷ [])
  scan_outcome choice = ap Ok rows

  pub input_outcome : (choice : List (List ℕ)) → outcome (input_of p) instance choice ≡ Ok (a ∷ b ∷ [])
  input_outcome choice = columns_outcome p.read (table_at instance p.table) ∙ ap (λ l. Ok (map (columns_of p.read) l)) rows

  module _ (tie : Tie (class_columns p.class) a b) where
    -- under an ordering that numbers the rows so
    module _ (o : List ℕ) (m n : ℕ) (numbers : window_outcome (window_rule p) (a ∷ b ∷ []) (o ∷ []) ≡ Ok (numbered a m ∷ numbered b n ∷ [])) where
      window_is : outcome windowed instance (o ∷ []) ≡ Ok (numbered a m ∷ numbered b n ∷ [])
      window_is = ap (λ (x : RowsOrFault). and_then x (λ rows. window_outcome (window_rule p) rows (o ∷ []))) (input_outcome (o ∷ [])) ∙ numbers

      pub plan_is : outcome (plan_by p) instance (o ∷ []) ≡ Ok (columns_of p.shown (numbered a m) ∷ columns_of p.shown (numbered b n) ∷ [])
      plan_is = ap (λ (x : RowsOrFault). and_then x (map_outcome (map Column p.shown))) window_is ∙ columns_outcome p.shown (numbered a m ∷ numbered b n ∷ [])

      none_larger : (x y : Row) (o : RowsOrFault) → o ≡ Ok (x ∷ y ∷ []) → has_more_rows most_rows o ≡ false
      none_larger x y o e = ap (has_more_rows most_rows) e

      -- no step is too large
      pub small : has_large_step (plan_by p) instance (o ∷ []) ≡ false
      small = λ i. ((ap (has_more_rows most_rows) (scan_outcome (o ∷ [])) i || ap (has_more_rows most_rows) (input_outcome (o ∷ [])) i) || ap (has_more_rows most_rows) window_is i) || ap (has_more_rows most_rows) plan_is i

    -- the stable choice, and the one that turns its ordering
    the_choice : (flipped : Option ℕ) (choice : List (List ℕ)) → IsStableChoice (plan_by p) instance flipped choice → (o : List ℕ) × (choice ≡ o ∷ []) × IsStableSortOf (sort_columns p.class) (a ∷ b ∷ []) (given_positions (turn_of (reverse_at flipped) 0) 2) o
    the_choice flipped [] t = absurd (let e : 0 ≡ 1 = t.number in omega (arith, e))
    the_choice flipped (o ∷ u ∷ choice) t = absurd (let e : length (o ∷ u ∷ choice) ≡ 1 = t.number in omega (arith, e))
    the_choice flipped (o ∷ []) t = (o, refl, subst (λ (x : RowsOrFault). IsSortedOver p.class (turn_of (reverse_at flipped) 0) x o) (input_outcome (o ∷ [])) (t.tied.0.1 0 (omega arith)))

    pub first_choice : (choice : List (List ℕ)) → IsStableChoice (plan_by p) instance None choice → choice ≡ (0 ∷ 1 ∷ []) ∷ []
    first_choice choice t = let c = the_choice None choice t in c.1 ∙ ap (λ o. o ∷ []) (the_sort p.class a b tie c.0 c.2)

    pub flipped_choice : (choice : List (List ℕ)) → IsStableChoice (plan_by p) instance (Some 0) choice → choice ≡ (1 ∷ 0 ∷ []) ∷ []
    flipped_choice choice t = let c = the_choice (Some 0) choice t in c.1 ∙ ap (λ o. o ∷ []) (the_flipped_sort p.class a b tie c.0 c.2)

    pub outcome_first : outcome (plan_by p) instance ((0 ∷ 1 ∷ []) ∷ []) ≡ Ok (columns_of p.shown (numbered a 1) ∷ columns_of p.shown (numbered b 2) ∷ [])
    outcome_first = plan_is (0 ∷ 1 ∷ []) 1 2 (window_first p a b tie)

    pub outcome_flipped : outcome (plan_by p) instance ((1 ∷ 0 ∷ []) ∷ []) ≡ Ok (columns_of p.shown (numbered a 2) ∷ columns_of p.shown (numbered b 1) ∷ [])
    outcome_flipped = plan_is (1 ∷ 0 ∷ []) 2 1 (window_flipped p a b tie)

-- ---- they do not agree

column_before : (row : Row) (v : Value) (c : ℕ) → c < length row → column_of (row ++ v ∷ []) c ≡ column_of row c
column_before [] v c h = absurd (omega (arith, h))
column_before (x ∷ row) v zero h = refl
column_before (x ∷ row) v (suc c) h = column_before row v c (omega (arith, h))

column_after : (row : Row) (v : Value) → column_of (row ++ v ∷ []) (length row) ≡ v
column_after [] v = refl
column_after (x ∷ row) v = column_after row v

pub not_once : (eq : Row → Row → Bool) (x y z w : Row) → eq x x ≡ true → eq x z ≡ false → eq x w ≡ false → SameBag eq (x ∷ y ∷ []) (z ∷ w ∷ []) → ⊥
not_once eq x y z w own e f bag = by (eq x y) refl
  where
    none : times eq x (z ∷ w ∷ []) ≡ 0
    none = rw (e, f) refl

    by : (q : Bool) → eq x y ≡ q → ⊥
    by true g = let h = rw (own, g) at (bag x ∙ none) in omega (arith, h)
    by false g = let h = rw (own, g) at (bag x ∙ none) in omega (arith, h)

-- they show one column in which the two rows differ, and the number
module _ (p : PlainPlan) (r q : Row) where
  pub not_alike : (number : Among (length p.read) p.shown) (c : ℕ) → c < length p.read → Among c p.shown → same (column_of (columns_of p.read r) c) (column_of (columns_of p.read q) c) ≡ false
      → Agree (Ok (columns_of p.shown (numbered (columns_of p.read r) 1) ∷ columns_of p.shown (numbered (columns_of p.read q) 2) ∷ [])) (Ok (columns_of p.shown (numbered (columns_of p.read r) 2) ∷ columns_of p.shown (numbered (columns_of p.read q) 1) ∷ [])) → ⊥
  not_alike number c within at differ agree =
      not_once same_row (columns_of p.shown (numbered a 1)) (columns_of p.shown (numbered b 2)) (columns_of p.shown (numbered a 2)) (columns_of p.shown (numbered b 1))
      (same_row_self (columns_of p.shown (numbered a 1)))
      (differ_at p.shown (numbered a 1) (numbered a 2) (length p.read) number by_number)
      (differ_at p.shown (numbered a 1) (numbered b 1) c at by_column)
      agree
    where
      a : Row
      a = columns_of p.read r

      b : Row
      b = columns_of p.read q

      long : (row : Row) → length (columns_of p.read row) ≡ length p.read
      long row = length-map p.read (column_of row)

      number_at : (row : Row) (n : ℕ) → column_of (numbered (columns_of p.read row) n) (length p.read) ≡ Int (pos n)
      number_at row n = ap (column_of (numbered (columns_of p.read row) n)) (sym (long row)) ∙ column_after (columns_of p.read row) (Int (pos n))

      by_number : same (column_of (numbered a 1) (length p.read)) (column_of (numbered a 2) (length p.read)) ≡ false
      by_number = λ i. same (number_at r 1 i) (number_at r 2 i)

      before : (row : Row) (n : ℕ) → column_of (numbered (columns_of p.read row) n) c ≡ column_of (columns_of p.read row) c
      before row n = column_before (columns_of p.read row) (Int (pos n)) c (subst (λ k. c < k) (sym (long row)) within)

      by_column : same (column_of (numbered a 1) c) (column_of (numbered b 1) c) ≡ false
      by_column = (λ i. same (before r 1 i) (before q 1 i)) ∙ differ
