-- The order of rows by the columns of a class is that of its partition and keys.
use Rattle.std.proofs.Common.{◌≡◌, ℕ, Bool, true, false, not, ◌&&◌, List, [], ◌∷◌, refl, sym, ◌∙◌, ap, subst, Ordering, Less, Equal, Greater}
use Rattle.std.specs.List.Sorted.{ties}
use Rattle.std.specs.Ordering.{is_eq, is_lt, ordering_reverse, ordering_then}
use Rattle.wd_value.specs.Rows.{Row, columns_of, row_at, same_row}
use Rattle.wd_value.specs.Keys.{compare_keys, key_columns}
use Rattle.wd_value.proofs.KeyLaws.{compare_keys_total, compare_keys-exact, compare_keys-ties}
use Rattle.wd_value.proofs.SameLaws.{same_row-Decides}
use Rattle.wd_sort.specs.Sorting.{compare_rows_at}
use Rattle.wd_sort.proofs.TwoSorts.{compare_keys-append}
use Rattle.wd_plan.specs.Plans.{ClassRule}
use Rattle.wd_plan.specs.Sorting.{same_partition}
use Rattle.wd_partition.specs.Columns.{partition_columns, sort_columns}

-- ---- by all columns

pub by_parts : (class : ClassRule) (a b : Row) → compare_keys (sort_columns class) a b ≡ ordering_then (compare_keys (partition_columns class.partition) a b) (compare_keys class.order a b)
by_parts class a b = compare_keys-append (partition_columns class.partition) class.order a b

-- ---- by the partition's columns

same_tests : (b c : Bool) → (b ≡ true → c ≡ true) → (c ≡ true → b ≡ true) → b ≡ c
same_tests true true f g = refl
same_tests true false f g = sym (f refl)
same_tests false true f g = g refl
same_tests false false f g = refl

is_eq_Equal : (o : Ordering) → is_eq o ≡ true → o ≡ Equal
is_eq_Equal Less e = cc
is_eq_Equal Equal e = refl
is_eq_Equal Greater e = cc

columns_are : (columns : List ℕ) → key_columns (partition_columns columns) ≡ columns
columns_are [] = refl
columns_are (c ∷ columns) = ap (λ cs. c ∷ cs) (columns_are columns)

-- rows tie by the partition's columns exactly where they are of one partition
pub tie_is_partition : (columns : List ℕ) (a b : Row) → is_eq (compare_keys (partition_columns columns) a b) ≡ same_row (columns_of columns a) (columns_of columns b)
tie_is_partition columns a b =
    let keys = partition_columns columns in
    same_tests (is_eq (compare_keys keys a b)) (same_row (columns_of columns a) (columns_of columns b))
    (λ e. (same_row-Decides (columns_of columns a) (columns_of columns b)).1 (subst (λ cs. columns_of cs a ≡ columns_of cs b) (columns_are columns) (compare_keys-exact keys a b (is_eq_Equal (compare_keys keys a b) e))))
    (λ e. ap is_eq (compare_keys-ties keys a b (subst (λ cs. columns_of cs a ≡ columns_of cs b) (sym (columns_are columns)) ((same_row-Decides (columns_of columns a) (columns_of columns b)).0 e))))

tied : (o p : Ordering) → p ≡ ordering_reverse o → (not (is_lt o) && not (is_lt p)) ≡ is_eq o
tied Less p e = refl
tied Equal p e = rw e refl
tied Greater p e = rw e refl

-- positions tie by the partition's columns where their rows are of one partition
pub ties_are_partitions : (class : ClassRule) (rows : List Row) (p q : ℕ) → ties (λ x y. is_lt (compare_rows_at (partition_columns class.partition) rows x y)) p q ≡ same_partition class (row_at rows p) (row_at rows q)
ties_are_partitions class rows p q =
    tied (compare_rows_at (partition_columns class.partition) rows p q) (compare_rows_at (partition_columns class.partition) rows q p)
    ((compare_keys_total (partition_columns class.partition)).antisymm (row_at rows q) (row_at rows p))
    ∙ tie_is_partition class.partition (row_at rows p) (row_at rows q)
