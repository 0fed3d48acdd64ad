-- An ordering and its positions by partition have the same members in each partition.
use Rattle.std.proofs.Common.{◌≡◌, ℕ, zero, suc, ◌+◌, ◌<◌, Bool, true, false, List, [], ◌∷◌, ◌++◌, filter, get_or, length, refl, sym, ◌∙◌, ap, subst, arith, Ordering, Less, Equal, Greater, is_gt, IsPermutation}
use Rattle.std.specs.Prelude.{IsSorted}
use Rattle.std.specs.List.{AllByRecursion}
use Rattle.std.specs.List.Sorted.{ties}
use Rattle.std.specs.Ordering.{is_eq, is_lt, ordering_reverse, ordering_then}
use Rattle.std.proofs.lemmas.List.{get_or-map, length-map}
use Rattle.std.proofs.lemmas.List.Sorted.{IsPermutation-cons, IsPermutation-refl, IsPermutation-reverse, IsPermutation-swap, IsPermutation-trans}
use Rattle.wd_value.specs.Bags.{positions, EachOnce}
use Rattle.wd_value.specs.Rows.{Row, columns_of, row_at, rows_at}
use Rattle.wd_value.proofs.Perms.{Perm}
use Rattle.wd_sort.specs.Sorting.{IsStableSortOf, compare_rows_at}
use Rattle.wd_value.specs.Keys.{compare_keys}
use Rattle.wd_plan.specs.Partitions.{members}
use Rattle.wd_plan.specs.Plans.{ClassRule}
use Rattle.wd_plan.specs.Sorting.{IsInOrder, IsOrdering, same_partition}
use Rattle.wd_value.proofs.KeyLaws.{compare_keys_total, same_row_self}
use Rattle.wd_plan.proofs.Parts.{NotAfter, Perm-ordering, ordered, part, partition_of-is, rising_part}
use Rattle.wd_plan.proofs.Sorted.{Rising}
use Rattle.wd_plan.proofs.SortLaws.{EachOnce-from_IsPermutation, IsOrdering-from_sort}
use Rattle.wd_partition.specs.Columns.{exchanged, given_positions, partition_columns, rotated, sort_columns}
use Rattle.wd_partition.specs.Orderings.{AreGrouped, IsGroupedOrdering}
use Rattle.wd_partition.specs.declared.turn.Turn.{Turn}
use Rattle.wd_partition.specs.declared.turn.Turn.TheVariants.{AsGiven, Reversed, Rotated, Exchanged}
use Rattle.wd_partition.proofs.ByColumns.{by_parts, ties_are_partitions, tie_is_partition}

-- ---- rearrangements

pub IsPermutation-from_Perm : {xs ys : List ℕ} → Perm ℕ xs ys → IsPermutation xs ys
IsPermutation-from_Perm Perm.done = IsPermutation-refl []
IsPermutation-from_Perm (Perm.keep x {xs = xs} {ys = ys} p) = IsPermutation-cons x xs ys (IsPermutation-from_Perm p)
IsPermutation-from_Perm (Perm.flip x y xs) = IsPermutation-swap (x ∷ y ∷ xs) (y ∷ x ∷ xs) 0 1 (omega arith) (omega arith) refl
IsPermutation-from_Perm (Perm.both {xs = xs} {ys = ys} {zs = zs} p q) = IsPermutation-trans xs ys zs (IsPermutation-from_Perm p) (IsPermutation-from_Perm q)

-- the first one after the others
Perm-after : (x : ℕ) (ys : List ℕ) → Perm ℕ (x ∷ ys) (ys ++ x ∷ [])
Perm-after x [] = Perm.keep x Perm.done
Perm-after x (y ∷ ys) = Perm.both (Perm.flip x y ys) (Perm.keep y (Perm-after x ys))

Perm-rotated : (xs : List ℕ) → Perm ℕ xs (rotated xs)
Perm-rotated [] = Perm.done
Perm-rotated (x ∷ xs) = Perm-after x xs

Perm-exchanged : (xs : List ℕ) → Perm ℕ xs (exchanged xs)
Perm-exchanged [] = Perm.done
Perm-exchanged (x ∷ []) = Perm.keep x Perm.done
Perm-exchanged (x ∷ y ∷ xs) = Perm.both (Perm.flip x y xs) (Perm.keep y (Perm.keep x (Perm-exchanged xs)))

pub IsPermutation-given : (turn : Turn) (n : ℕ) → IsPermutation (positions n) (given_positions turn n)
IsPermutation-given AsGiven n = IsPermutation-refl (positions n)
IsPermutation-given Reversed n = IsPermutation-reverse (positions n)
IsPermutation-given Rotated n = IsPermutation-from_Perm (Perm-rotated (positions n))
IsPermutation-given Exchanged n = IsPermutation-from_Perm (Perm-exchanged (positions n))

module _ (class : ClassRule) (rows : List Row) where
  -- ---- sorted by all columns

  pub IsOrdering-from_columns : (ordering : List ℕ) → IsPermutation (positions (length rows)) ordering → IsSorted (compare_rows_at (sort_columns class) rows) ordering → IsOrdering class rows ordering
  IsOrdering-from_columns ordering permutation sorted =
      IsOrdering-from_sort class rows ordering permutation (λ k d low high. ap is_lt (sym (by_parts class _ _)) ∙ sorted k d low high)

  pub IsOrdering-from_given : (turn : Turn) (ordering : List ℕ) → IsStableSortOf (sort_columns class) rows (given_positions turn (length rows)) ordering → IsOrdering class rows ordering
  IsOrdering-from_given turn ordering sort =
      IsOrdering-from_columns ordering (IsPermutation-trans (positions (length rows)) (given_positions turn (length rows)) ordering (IsPermutation-given turn (length rows)) sort.rearranged) sort.sorted

  -- ---- members

  pub same_members : (ordering grouped : List ℕ) → IsStableSortOf (partition_columns class.partition) rows ordering grouped → (p : ℕ) → members class rows grouped p ≡ members class rows ordering p
  same_members ordering grouped sort p =
      let tests : ties (λ x y. is_lt (compare_rows_at (partition_columns class.partition) rows x y)) p ≡ (λ q. same_partition class (row_at rows p) (row_at rows q)) = λ i q. ties_are_partitions class rows p q i in
      subst (λ (t : ℕ → Bool). filter t grouped ≡ filter t ordering) tests (sort.stable p)

  same_part : (xs ys : List ℕ) → ((p : ℕ) → members class rows xs p ≡ members class rows ys p) → (p : ℕ) → part class (row_at rows p) (ordered rows xs) ≡ part class (row_at rows p) (ordered rows ys)
  same_part xs ys same p = sym (partition_of-is class rows xs p) ∙ ap (rows_at rows) (same p) ∙ partition_of-is class rows ys p

  -- ---- in order, where each partition list rises

  passing_step : (x w : Row) (ws : List Row) (b : Bool) → same_partition class x w ≡ b → AllByRecursion (NotAfter class x) (part class x (w ∷ ws))
      → (AllByRecursion (NotAfter class x) (part class x ws) → AllByRecursion (λ q. same_partition class x q ≡ true → NotAfter class x q) ws)
      → AllByRecursion (λ q. same_partition class x q ≡ true → NotAfter class x q) (w ∷ ws)
  passing_step x w ws true e h rest = let g : AllByRecursion (NotAfter class x) (w ∷ part class x ws) = rw e at h in ((λ f. g.0), rest g.1)
  passing_step x w ws false e h rest = let g : AllByRecursion (NotAfter class x) (part class x ws) = rw e at h in ((λ f. absurd (cc)), rest g)

  passing : (x : Row) (ws : List Row) → AllByRecursion (NotAfter class x) (part class x ws) → AllByRecursion (λ q. same_partition class x q ≡ true → NotAfter class x q) ws
  passing x [] h = tt
  passing x (w ∷ ws) h = passing_step x w ws (same_partition class x w) refl h (passing x ws)

  rising_rest : (x w : Row) (ws : List Row) (b : Bool) → same_partition class x w ≡ b → Rising (NotAfter class) (part class x (w ∷ ws)) → Rising (NotAfter class) (part class x ws)
  rising_rest x w ws true e h = let g : Rising (NotAfter class) (w ∷ part class x ws) = rw e at h in g.1
  rising_rest x w ws false e h = let g : Rising (NotAfter class) (part class x ws) = rw e at h in g

  in_order_from_parts : (ps : List ℕ) → ((p : ℕ) → Rising (NotAfter class) (part class (row_at rows p) (ordered rows ps))) → IsInOrder class (rows_at rows ps)
  in_order_from_parts [] h = tt
  in_order_from_parts (p ∷ ps) h =
      let x = row_at rows p in
      let self : same_partition class x x ≡ true = same_row_self (columns_of class.partition x) in
      let first : Rising (NotAfter class) (x ∷ part class x (ordered rows ps)) = rw self at (h p) in
      (passing x (ordered rows ps) first.0, in_order_from_parts ps (λ q. rising_rest (row_at rows q) x (ordered rows ps) (same_partition class (row_at rows q) x) refl (h q)))

  -- the same members in each partition: in order alike
  pub in_order_alike : (xs ys : List ℕ) → ((p : ℕ) → members class rows xs p ≡ members class rows ys p) → IsInOrder class (rows_at rows xs) → IsInOrder class (rows_at rows ys)
  in_order_alike xs ys same h = in_order_from_parts ys (λ p. subst (Rising (NotAfter class)) (same_part xs ys same p) (rising_part class (row_at rows p) (ordered rows xs) h))

  -- ---- neighbours

  at_place : (x : Row) (ws : List Row) (j : ℕ) → AllByRecursion (λ q. same_partition class x q ≡ true → NotAfter class x q) ws → j < length ws → same_partition class x (row_at ws j) ≡ true → NotAfter class x (row_at ws j)
  at_place x [] j h l = absurd (omega arith)
  at_place x (w ∷ ws) zero h l = h.0
  at_place x (w ∷ ws) (suc j) h l = at_place x ws j h.1 (omega arith)

  neighbours : (ws : List Row) (k : ℕ) → IsInOrder class ws → k + 1 < length ws → same_partition class (row_at ws k) (row_at ws (k + 1)) ≡ true → NotAfter class (row_at ws k) (row_at ws (k + 1))
  neighbours [] k h l = absurd (omega arith)
  neighbours (w ∷ ws) zero h l = at_place w ws 0 h.0 (omega arith)
  neighbours (w ∷ ws) (suc k) h l = let e : suc (k + 1) ≡ suc k + 1 = omega arith in subst (λ m. same_partition class (row_at ws k) (row_at (w ∷ ws) m) ≡ true → NotAfter class (row_at ws k) (row_at (w ∷ ws) m)) e (neighbours ws k h.1 (omega arith))

  turned : (o p : Ordering) → p ≡ ordering_reverse o → is_gt o ≡ false → is_lt p ≡ false
  turned Less p e g = rw e refl
  turned Equal p e g = rw e refl
  turned Greater p e g = cc

  eq_back : (o p : Ordering) → p ≡ ordering_reverse o → o ≡ Equal → is_eq p ≡ true
  eq_back o p e f = rw (e, f) refl

  then_not_less : (o p : Ordering) → is_lt o ≡ false → (o ≡ Equal → is_lt p ≡ false) → is_lt (ordering_then o p) ≡ false
  then_not_less Less p e h = cc
  then_not_less Equal p e h = h refl
  then_not_less Greater p e h = refl

  -- b after a, in the order of the partitions and within a partition in the order of the keys
  after : (a b : Row) → is_lt (compare_keys (partition_columns class.partition) b a) ≡ false → (same_partition class a b ≡ true → NotAfter class a b) → is_lt (compare_keys (sort_columns class) b a) ≡ false
  after a b low rises =
      ap is_lt (by_parts class b a)
      ∙ then_not_less (compare_keys (partition_columns class.partition) b a) (compare_keys class.order b a) low
      (λ e. turned (compare_keys class.order a b) (compare_keys class.order b a) ((compare_keys_total class.order).antisymm b a)
      (rises (sym (tie_is_partition class.partition a b) ∙ eq_back (compare_keys (partition_columns class.partition) b a) (compare_keys (partition_columns class.partition) a b) ((compare_keys_total (partition_columns class.partition)).antisymm a b) e)))

  pub sorted_from_in_order : (ps : List ℕ) → IsInOrder class (rows_at rows ps) → IsSorted (compare_rows_at (partition_columns class.partition) rows) ps → IsSorted (compare_rows_at (sort_columns class) rows) ps
  sorted_from_in_order ps h sorted = λ k d low high. (
      let here : row_at (rows_at rows ps) k ≡ row_at rows (get_or ps k d) = get_or-map (row_at rows) ps k d [] (omega arith) in
      let next : row_at (rows_at rows ps) (k + 1) ≡ row_at rows (get_or ps (k + 1) d) = get_or-map (row_at rows) ps (k + 1) d [] high in
      let long : k + 1 < length (rows_at rows ps) = subst (λ n. k + 1 < n) (sym (length-map ps (row_at rows))) high in
      after (row_at rows (get_or ps k d)) (row_at rows (get_or ps (k + 1) d)) (sorted k d low high)
      (subst (λ (r : Row). same_partition class (row_at rows (get_or ps k d)) r ≡ true → NotAfter class (row_at rows (get_or ps k d)) r) next
      (subst (λ (r : Row). same_partition class r (row_at (rows_at rows ps) (k + 1)) ≡ true → NotAfter class r (row_at (rows_at rows ps) (k + 1))) here
      (neighbours (rows_at rows ps) k h long)))
      )

  -- ---- an ordering and its positions by partition

  pub permutation_once : (ordering grouped : List ℕ) → EachOnce (length rows) ordering → IsStableSortOf (partition_columns class.partition) rows ordering grouped → IsPermutation (positions (length rows)) grouped
  permutation_once ordering grouped once sort =
      IsPermutation-trans (positions (length rows)) ordering grouped (IsPermutation-from_Perm (Perm-ordering rows ordering once)) sort.rearranged

  pub AreGrouped-from_sorted : (ordering grouped : List ℕ) → EachOnce (length rows) ordering → IsStableSortOf (partition_columns class.partition) rows ordering grouped → IsSorted (compare_rows_at (sort_columns class) rows) grouped → AreGrouped class rows ordering grouped
  AreGrouped-from_sorted ordering grouped once sort sorted = record {
    lawful = record {
      once = once;
      in_order = in_order_alike grouped ordering (same_members ordering grouped sort) (IsOrdering-from_columns grouped (permutation_once ordering grouped once sort) sorted).in_order;
    };
    sorted = sort;
  }

  pub sorted_from_lawful : (ordering grouped : List ℕ) → IsOrdering class rows ordering → IsStableSortOf (partition_columns class.partition) rows ordering grouped → IsSorted (compare_rows_at (sort_columns class) rows) grouped
  sorted_from_lawful ordering grouped lawful sort =
      sorted_from_in_order grouped (in_order_alike ordering grouped (λ p. sym (same_members ordering grouped sort p)) lawful.in_order) sort.sorted

  pub IsGroupedOrdering-from_AreGrouped : (ordering grouped : List ℕ) → AreGrouped class rows ordering grouped → IsGroupedOrdering class rows grouped
  IsGroupedOrdering-from_AreGrouped ordering grouped are = record {
    lawful = record {
      once = EachOnce-from_IsPermutation (length rows) grouped (permutation_once ordering grouped are.lawful.once are.sorted);
      in_order = in_order_alike ordering grouped (λ p. sym (same_members ordering grouped are.sorted p)) are.lawful.in_order;
    };
    sorted = are.sorted.sorted;
  }
