-- Stable sorts of rows that are the same in what is read, and by keys with the columns that they determine.
use Rattle.std.proofs.Common.{◌≡◌, ℕ, List, [], ◌∷◌, ◌++◌, map, length, refl, sym, ◌∙◌, ap, subst, nat_lt, Ok, Err}
use Rattle.std.proofs.lemmas.List.{length-map}
use Rattle.std.specs.List.{AllByRecursion}
use Rattle.std.specs.List.Sorted.{IsStable}
use Rattle.std.specs.Prelude.{IsSorted}
use Rattle.std.specs.declared.cmp.Ordering.{Ordering}
use Rattle.wd_value.specs.declared.order.SortColumn.{SortColumn}
use Rattle.wd_value.specs.Keys.{compare_keys, key_columns}
use Rattle.wd_value.specs.Rows.{Row, row_at}
use Rattle.wd_plan.specs.Outcomes.{RowsOrFault}
use Rattle.wd_plan.specs.Plans.{ClassRule, PlanTree}
use Rattle.wd_sort.specs.Sorting.{IsStableSortOf, compare_rows_at}
use Rattle.wd_partition.specs.Columns.{given_positions, partition_columns, sort_columns}
use Rattle.wd_partition.specs.declared.turn.Turn.{Turn}
use Rattle.wd_join.specs.Joins.{has_more_rows}
use Rattle.wd_nodes.specs.Relation.{most_rows}
use Rattle.wd_eval.specs.Tied.{IsSortedOrdering, IsSortedOver}
use Rattle.wd_simpler.proofs.Alike.{AreAlikeOn, AreSameOn, at_alike, same_rows}
use Rattle.wd_simpler.proofs.GivenBack.{GivesBack}
use Rattle.wd_simpler.proofs.Masks.{mask}
use Rattle.wd_simpler.proofs.SortKeys.{compare_keyed}
use Rattle.wd_simpler.proofs.Values.{AreRead, keys_read, row_read}
use Rattle.wd_simpler.specs.Keyed.{keyed_class}
use Rattle.wd_simpler.specs.Simpler.{Read}

-- rows that compare alike at all places have the same stable sorts
sort_same : (columns others : List SortColumn) (rows more : List Row) (given ordering : List ℕ) → ((p q : ℕ) → compare_rows_at columns rows p q ≡ compare_rows_at others more p q) → IsStableSortOf columns rows given ordering → IsStableSortOf others more given ordering
sort_same columns others rows more given ordering e s = record {
  rearranged = s.rearranged;
  sorted = subst (λ (f : ℕ → ℕ → Ordering). IsSorted f ordering) (λ i p q. e p q i) s.sorted;
  stable = subst (λ (f : ℕ → ℕ → Ordering). IsStable f given ordering) (λ i p q. e p q i) s.stable;
}

-- ---- rows that are the same in what is read

pub length_alike : (read : Read) (rows others : List Row) → AreSameOn read rows others → length rows ≡ length others
length_alike read rows others e = sym (length-map rows (mask read)) ∙ ap length e ∙ length-map others (mask read)

module _ (read : Read) (columns : List SortColumn) (is_read : AreRead read (key_columns columns)) where
  compare_masked : (rows : List Row) (p q : ℕ) → compare_rows_at columns (map (mask read) rows) p q ≡ compare_rows_at columns rows p q
  compare_masked rows p q = (λ i. compare_keys columns (row_read read rows p i) (row_read read rows q i)) ∙ keys_read read columns is_read (row_at rows p) (row_at rows q)

  compare_alike : (rows others : List Row) → AreSameOn read rows others → (p q : ℕ) → compare_rows_at columns rows p q ≡ compare_rows_at columns others p q
  compare_alike rows others e p q = sym (compare_masked rows p q) ∙ (λ i. compare_rows_at columns (e i) p q) ∙ compare_masked others p q

-- the columns that the rows of a class are sorted by are read where those of its partition and of its keys are
all_read : (read : Read) (partition : List ℕ) (order : List SortColumn) → AreRead read partition → AreRead read (key_columns order) → AreRead read (key_columns (partition_columns partition ++ order))
all_read read [] order a b = b
all_read read (c ∷ partition) order a b = (a.0, all_read read partition order a.1 b)

module _ (read : Read) (class : ClassRule) (partition : AreRead read class.partition) (order : AreRead read (key_columns class.order)) (turn : Turn) (ordering : List ℕ) where
  sorted_alike : (rows others : List Row) → AreSameOn read rows others → IsSortedOrdering class turn rows ordering → IsSortedOrdering class turn others ordering
  sorted_alike rows others e s =
      let columns = sort_columns class in
      subst (λ n. IsStableSortOf columns others (given_positions turn n) ordering) (length_alike read rows others e)
      (sort_same columns columns rows others (given_positions turn (length rows)) ordering (compare_alike read columns (all_read read class.partition class.order partition order) rows others e) s)

  pub over_alike : (given others : RowsOrFault) → AreAlikeOn read given others → IsSortedOver class turn given ordering → IsSortedOver class turn others ordering
  over_alike = at_alike (λ rows. IsSortedOrdering class turn rows ordering) (λ rows. IsSortedOrdering class turn rows ordering) (ordering ≡ []) read sorted_alike

pub same_size : (read : Read) (given others : RowsOrFault) → AreAlikeOn read given others → has_more_rows most_rows given ≡ has_more_rows most_rows others
same_size read (Ok rows) (Ok others) e = ap (nat_lt most_rows) (length_alike read rows others (same_rows read rows others e))
same_size read (Ok rows) (Err fault) e = absurd cc
same_size read (Err fault) (Ok others) e = absurd cc
same_size read (Err fault) (Err other) e = refl

-- ---- keys with the columns that they determine

pub sorted_unkeyed : (input : PlanTree) (class : ClassRule) (turn : Turn) (ordering : List ℕ) (rows : List Row) → AllByRecursion (GivesBack input) rows → IsSortedOrdering (keyed_class input class) turn rows ordering → IsSortedOrdering class turn rows ordering
sorted_unkeyed input class turn ordering rows gives =
    sort_same (sort_columns (keyed_class input class)) (sort_columns class) rows rows (given_positions turn (length rows)) ordering
    (compare_keyed input rows gives (partition_columns class.partition) class.order)
