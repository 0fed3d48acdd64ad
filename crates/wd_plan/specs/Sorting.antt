-- The orderings of a list of rows that a class allows (SQL, window clause; PG, Window Function Calls).
use Rattle.std.specs.Prelude.{◌≡◌, ℕ, Bool, true, false, List, [], ◌∷◌, ◌++◌, length, ⊤}
use Rattle.std.specs.List.{AllByRecursion}
use Rattle.std.specs.Ordering.{is_gt}
use Rattle.wd_value.specs.Bags.{EachOnce}
use Rattle.wd_value.specs.Rows.{Row, columns_of, same_row, rows_at}
use Rattle.wd_value.specs.Keys.{compare_keys, key_columns}
use Rattle.wd_plan.specs.Plans.{ClassRule}
pub use Rattle.wd_plan.specs.Plans.{limit_class}

abbrev pub order_columns : ClassRule → List ℕ
order_columns class = key_columns class.order

-- the columns of a class: those of its partition and of its sort keys
abbrev pub class_columns : ClassRule → List ℕ
class_columns class = class.partition ++ order_columns class

-- not distinct on any partition column
abbrev pub same_partition : ClassRule → Row → Row → Bool
same_partition class a b = same_row (columns_of class.partition a) (columns_of class.partition b)

-- a row that comes before a row of the same partition has no greater key
abbrev pub IsInOrder : ClassRule → List Row → Type 0
IsInOrder class [] = ⊤
IsInOrder class (r ∷ rs) = AllByRecursion (λ q. same_partition class r q ≡ true → is_gt (compare_keys class.order r q) ≡ false) rs × IsInOrder class rs

-- a lawful ordering: each position of the rows once, and within each partition the rows sorted by the keys; rows of one partition that
-- tie on all keys may appear in any order
pub record IsOrdering (class : ClassRule) (rows : List Row) (ordering : List ℕ) : Type 0 where
  pub once : EachOnce (length rows) ordering
  pub in_order : IsInOrder class (rows_at rows ordering)
