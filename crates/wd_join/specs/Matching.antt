-- Pairs that agree on columns of the left and of the right rows, and conditions that are true for no others.
use Rattle.std.specs.Prelude.{◌≡◌, ℕ, ◌+◌, ◌-◌, ◌<◌, ◌≤◌, ◌⊎◌, Bool, true, false, ◌&&◌, ◌||◌, List, [], ◌∷◌, ◌++◌, map, filter, flat_map, length, take, drop, get_or, All, Result, Ok}
use Rattle.std.specs.List.{list_any}
use Rattle.std.specs.declared.cmp.Ordering.{Ordering}
use Rattle.std.specs.declared.cmp.Ordering.TheVariants.{Equal as Tie}
use Rattle.std.specs.Ordering.{is_eq, is_lt, ordering_then}
use Rattle.wd_value.specs.declared.value.Value.{Value}
use Rattle.wd_value.specs.declared.value.Value.TheVariants.{Null, Bool as Truth}
use Rattle.wd_value.specs.declared.value.Fault.{Fault}
use Rattle.wd_value.specs.declared.order.SortColumn.{SortColumn}
use Rattle.wd_value.specs.declared.order.SortKey.{SortKey}
use Rattle.wd_value.specs.Bags.{positions}
use Rattle.wd_value.specs.Order.{compare}
use Rattle.wd_value.specs.Rows.{Row, column_of, row_at, rows_at}
use Rattle.wd_plan.specs.declared.expression.ComparisonOp.TheVariants.{Equal}
use Rattle.wd_plan.specs.Expressions.{Expression, Compare, comparison, is_null, is_true, value_of}
use Rattle.wd_plan.specs.Outcomes.{passes}
use Rattle.wd_sort.specs.Sorting.{IsStableSortOf}
use Rattle.wd_join.specs.declared.matching.JoinColumns.{JoinColumns}
use Rattle.wd_join.specs.declared.walk.Agreeing.{Agreeing}
use Rattle.wd_join.specs.declared.walk.RowRange.{RowRange}

abbrev pub null : Value
null = Null

abbrev pub ascending : SortKey
ascending = record { desc = false; nulls_first = false }

-- ---- pairs that agree

-- the values of a pair in two columns are equal
abbrev pub equal : JoinColumns → Row → Row → Value
equal c l r = comparison Equal (column_of l c.left) (column_of r c.right)

-- a pair's values in all of the columns are equal; NULL equals nothing
abbrev pub agree : List JoinColumns → Row → Row → Bool
agree [] l r = true
agree (c ∷ columns) l r = is_true (equal c l r) && agree columns l r

-- the pairs that agree, in the order of all pairs
abbrev pub matching : List JoinColumns → List Row → List Row → List Row
matching columns left right = flat_map (λ l. map (λ r. l ++ r) (filter (agree columns l) right)) left

-- one of the columns of a left row is NULL, which then agrees with no right row
abbrev pub lacks_key : List JoinColumns → Row → Bool
lacks_key columns l = list_any (λ c. is_null (column_of l c.left)) columns

-- ---- rows in the order of the columns

abbrev pub key : ℕ → SortColumn
key column = record { column = column; key = ascending }

abbrev pub left_keys : List JoinColumns → List SortColumn
left_keys columns = map (λ c. key c.left) columns

abbrev pub right_keys : List JoinColumns → List SortColumn
right_keys columns = map (λ c. key c.right) columns

-- the positions of the rows, stably sorted by the keys
abbrev pub IsSortedBy : List SortColumn → List Row → List ℕ → Type 0
IsSortedBy keys rows order = IsStableSortOf keys rows (positions (length rows)) order

-- the order of a right row against a left one, by two columns
abbrev pub compare_in : JoinColumns → Row → Row → Ordering
compare_in c l r = compare ascending (column_of r c.right) (column_of l c.left)

-- the order by the first columns on which they differ
abbrev pub compare_sides : List JoinColumns → Row → Row → Ordering
compare_sides [] l r = Tie
compare_sides (c ∷ columns) l r = ordering_then (compare_in c l r) (compare_sides columns l r)

-- the right row comes before the left one, or ties with it where that counts too
abbrev pub is_before : Bool → Ordering → Bool
is_before too order = is_lt order || (too && is_eq order)

-- the first n right rows of an order come before the left row
abbrev pub AreBefore : Bool → List JoinColumns → Row → List Row → List ℕ → ℕ → Type 0
AreBefore too columns l right order n = (k : ℕ) → k < n → is_before too (compare_sides columns l (row_at right (get_or order k 0))) ≡ true

-- the right rows up to the start of a range come before the left row, and those up to its end come before it or tie with it
pub record IsKnown (columns : List JoinColumns) (l : Row) (right : List Row) (order : List ℕ) (s : RowRange) : Type 0 where
  pub before : AreBefore false columns l right order s.start
  pub reached : AreBefore true columns l right order s.end

-- the first n right rows of an order come before the left row, and no others do
pub record IsEnd (too : Bool) (columns : List JoinColumns) (l : Row) (right : List Row) (order : List ℕ) (n : ℕ) : Type 0 where
  pub within : n ≤ length order
  pub before : AreBefore too columns l right order n
  pub after : (k : ℕ) → n ≤ k → k < length order → is_before too (compare_sides columns l (row_at right (get_or order k 0))) ≡ false

-- the range of an order of right rows that agree with a left row, in the order of the rows
pub record IsAgreeingRange (columns : List JoinColumns) (l : Row) (right : List Row) (order : List ℕ) (s : RowRange) : Type 0 where
  pub forwards : s.start ≤ s.end
  pub within : s.end ≤ length order
  pub agreeing : rows_at right (take (s.end - s.start) (drop s.start order)) ≡ filter (agree columns l) right

-- the range of each left row
pub record AreAgreeingRanges (columns : List JoinColumns) (left right : List Row) (order : List ℕ) (ranges : List RowRange) : Type 0 where
  pub long : length ranges ≡ length left
  pub each : (i : ℕ) (d : RowRange) → i < length left → IsAgreeingRange columns (row_at left i) right order (get_or ranges i d)

abbrev pub AreAgreeing : List JoinColumns → List Row → List Row → Agreeing → Type 0
AreAgreeing columns left right a = AreAgreeingRanges columns left right a.order.items a.ranges.items

-- ---- conditions

-- Where the columns of a pair of rows of these widths differ and are not NULL the condition is false, without a fault; where one of
-- them is NULL it is not true. This holds whatever row follows the pair.
pub record Decides (left right : ℕ) (e : Expression) (c : JoinColumns) : Type 0 where
  pub where_false : (l r x : Row) → length l ≡ left → length r ≡ right → equal c l r ≡ Truth false → value_of e ((l ++ r) ++ x) ≡ Ok (Truth false)
  pub where_null : (l r x : Row) → length l ≡ left → length r ≡ right → equal c l r ≡ Null → passes (value_of e ((l ++ r) ++ x)) ≡ false

-- over a pair of rows of these widths, whatever row follows it, the condition is the equality of the columns
abbrev pub Equates : ℕ → ℕ → Expression → JoinColumns → Type 0
Equates left right e c = (l r x : Row) → length l ≡ left → length r ≡ right → value_of e ((l ++ r) ++ x) ≡ Ok (equal c l r)

-- columns of which each decides were appended
pub record AreDeciding (left right : ℕ) (e : Expression) (old new : List JoinColumns) : Type 0 where
  pub own : List JoinColumns
  pub grown : new ≡ old ++ own
  pub each : All (Decides left right e) own

-- neither of the two columns holds a NULL
abbrev pub AreWhole : JoinColumns → List Row → List Row → Type 0
AreWhole c left right = All (λ l. is_null (column_of l c.left) ≡ false) left × All (λ r. is_null (column_of r c.right) ≡ false) right

abbrev pub equality : Expression → Expression → Expression
equality a b = Compare Equal a b

-- two columns of a pair are these columns: the first is the left row's and the second the right row's, or the other way round
abbrev pub AreSides : ℕ → ℕ → ℕ → ℕ → JoinColumns → Type 0
AreSides left right a b c = (c.left < left) × (c.right < right) × (((a ≡ c.left) × (b ≡ left + c.right)) ⊎ ((b ≡ c.left) × (a ≡ left + c.right)))

-- a value that is not true
abbrev pub IsUntrue : Result Value Fault → Type 0
IsUntrue result = (v : Value) × (result ≡ Ok v) × (is_true v ≡ false)

-- the condition has a value, and is not true, for each pair that does not agree, whatever row follows it
abbrev pub AreSkippable : Expression → List JoinColumns → List Row → List Row → Type 0
AreSkippable e columns left right = All (λ l. All (λ r. agree columns l r ≡ false → (x : Row) → IsUntrue (value_of e ((l ++ r) ++ x))) right) left
