-- Positions sorted by partition and keys are a lawful ordering.
use Rattle.std.proofs.Common.{◌≡◌, ℕ, suc, ◌<◌, Bool, true, false, cond, List, [], ◌∷◌, map, length, refl, sym, ◌∙◌, ap, subst, arith, Ordering, Less, Equal, Greater, nat_eq, IsPermutation, lt_trans}
use Rattle.std.specs.List.{AllByRecursion}
use Rattle.std.specs.List.Sorted.{IsSortedBy}
use Rattle.std.specs.Cmp.{IsTotalOrder, IsStrictWeakOrder}
use Rattle.std.specs.Ordering.{is_lt, is_gt, then_cmp, ordering_then, ordering_reverse}
use Rattle.std.proofs.lemmas.Cmp.{then_total}
use Rattle.std.proofs.lemmas.List.{get_or-map, length-map}
use Rattle.std.proofs.lemmas.List.Sorted.{sorted_far, ranks_by, sum_by-IsPermutation}
use Rattle.wd_value.specs.Bags.{positions, EachOnce}
use Rattle.wd_value.specs.Rows.{Row, column_of, columns_of, row_at, rows_at}
use Rattle.wd_value.proofs.SameLaws.{same_row-Decides}
use Rattle.wd_value.specs.declared.order.SortColumn.{SortColumn}
use Rattle.wd_value.specs.Keys.{compare_keys, key_columns}
use Rattle.wd_plan.specs.Plans.{ClassRule}
use Rattle.wd_plan.specs.Sorting.{same_partition, IsInOrder, IsOrdering}
use Rattle.wd_value.proofs.KeyLaws.{compare_keys_total, compare_keys-ties}

-- a rearrangement of the positions has each once
pub EachOnce-from_IsPermutation : (n : ℕ) (ordering : List ℕ) → IsPermutation (positions n) ordering → EachOnce n ordering
EachOnce-from_IsPermutation n ordering h p = sym (sum_by-IsPermutation (λ q. cond (nat_eq p q) 1 0) (positions n) ordering h)

abbrev pub ascending : ℕ → SortColumn
ascending c = record { column = c; key = record { desc = false; nulls_first = false } }

-- by partition, ascending with NULL last, then by the keys
abbrev pub sort_cmp : ClassRule → Row → Row → Ordering
sort_cmp class = then_cmp (compare_keys (map ascending class.partition)) (compare_keys class.order)

-- whether the row at one position sorts before that at another
abbrev pub stands_before : ClassRule → List Row → ℕ → ℕ → Bool
stands_before class rows p q = is_lt (sort_cmp class (row_at rows p) (row_at rows q))

pub sort_cmp_total : (class : ClassRule) → IsTotalOrder (sort_cmp class)
sort_cmp_total class = then_total (compare_keys_total (map ascending class.partition)) (compare_keys_total class.order)

pub stands_before-order : (class : ClassRule) (rows : List Row) → IsStrictWeakOrder (stands_before class rows)
stands_before-order class rows = ranks_by (sort_cmp_total class) (row_at rows)

partition_ties : (cs : List ℕ) (a b : Row) → columns_of cs a ≡ columns_of cs b → columns_of (key_columns (map ascending cs)) a ≡ columns_of (key_columns (map ascending cs)) b
partition_ties [] a b e = refl
partition_ties (c ∷ cs) a b e =
    let head : column_of a c ≡ column_of b c = cc in
    let tail : columns_of cs a ≡ columns_of cs b = cc in
    λ i. head i ∷ partition_ties cs a b tail i

turned : (o o' : Ordering) → o ≡ ordering_reverse o' → is_lt o' ≡ false → is_gt o ≡ false
turned o Less f g = cc
turned o Equal f g = ap is_gt f
turned o Greater f g = ap is_gt f

-- an order that does not put b before a lets a stand before b, in one partition
may_precede : (class : ClassRule) (a b : Row) → is_lt (sort_cmp class b a) ≡ false → same_partition class a b ≡ true → is_gt (compare_keys class.order a b) ≡ false
may_precede class a b h e =
    let same : columns_of class.partition a ≡ columns_of class.partition b = (same_row-Decides (columns_of class.partition a) (columns_of class.partition b)).0 e in
    let tie : compare_keys (map ascending class.partition) b a ≡ Equal = compare_keys-ties (map ascending class.partition) b a (partition_ties class.partition b a (sym same)) in
    let later : is_lt (compare_keys class.order b a) ≡ false = ap (λ o. is_lt (ordering_then o (compare_keys class.order b a))) (sym tie) ∙ h in
    turned (compare_keys class.order a b) (compare_keys class.order b a) ((compare_keys_total class.order).antisymm a b) later

at_each : (class : ClassRule) (r : Row) (xs : List Row) → ((j : ℕ) → j < length xs → same_partition class r (row_at xs j) ≡ true → is_gt (compare_keys class.order r (row_at xs j)) ≡ false) → AllByRecursion (λ q. same_partition class r q ≡ true → is_gt (compare_keys class.order r q) ≡ false) xs
at_each class r [] g = tt
at_each class r (x ∷ xs) g = (g 0 (omega arith), at_each class r xs (λ j l. g (suc j) (omega arith)))

in_order_from : (class : ClassRule) (rs : List Row) → ((i j : ℕ) → i < j → j < length rs → is_lt (sort_cmp class (row_at rs j) (row_at rs i)) ≡ false) → IsInOrder class rs
in_order_from class [] h = tt
in_order_from class (r ∷ rs) h =
    (at_each class r rs (λ j l. may_precede class r (row_at rs j) (h 0 (suc j) (omega arith) (omega arith))), in_order_from class rs (λ i j k l. h (suc i) (suc j) (omega arith) (omega arith)))

-- positions sorted by their rows are a lawful ordering
pub IsOrdering-from_sort : (class : ClassRule) (rows : List Row) (ordering : List ℕ) → IsPermutation (positions (length rows)) ordering → IsSortedBy (stands_before class rows) ordering → IsOrdering class rows ordering
IsOrdering-from_sort class rows ordering perm sorted = record {
  once = EachOnce-from_IsPermutation (length rows) ordering perm;
  in_order = in_order_from class (rows_at rows ordering) (λ i j k l.
      let n : j < length ordering = subst (λ m. j < m) (length-map ordering (row_at rows)) l in
      let far = sorted_far (stands_before class rows) (stands_before-order class rows) ordering sorted i j 0 (omega arith) n in
      (λ m. is_lt (sort_cmp class (get_or-map (row_at rows) ordering j 0 [] n m) (get_or-map (row_at rows) ordering i 0 [] (lt_trans k n) m))) ∙ far);
}
