-- Pairs of rows by their positions, and conditions that are nothing but equalities of columns.
use Rattle.std.specs.Prelude.{◌≡◌, ℕ, ◌+◌, Bool, true, false, ◌&&◌, ◌||◌, nat_lt, nat_le, List, ◌++◌, map, length, All, Ok}
use Rattle.wd_value.specs.declared.value.Value.{Value}
use Rattle.wd_value.specs.Rows.{Row, row_at}
use Rattle.wd_plan.specs.declared.expression.ComparisonOp.TheVariants.{Equal}
use Rattle.wd_plan.specs.Expressions.{Expression, Column, Compare, And, is_true, value_of}
use Rattle.wd_join.specs.declared.matching.JoinColumns.{JoinColumns}
use Rattle.wd_joined.specs.declared.pairs.Pair.{Pair}
use Rattle.wd_join.specs.Matching.{agree}

-- a left position with each of some right ones
abbrev pub with_each : ℕ → List ℕ → List Pair
with_each left positions = map (λ p. record { left = left; right = p }) positions

-- the condition has a value over a pair of rows, which is true exactly where they agree on the columns
abbrev pub IsExact : Expression → List JoinColumns → Row → Row → Type 0
IsExact e columns l r = (v : Value) × (value_of e (l ++ r) ≡ Ok v) × (is_true v ≡ agree columns l r)

-- the condition is exact for all pairs
abbrev pub AreExact : Expression → List JoinColumns → List Row → List Row → Type 0
AreExact e columns left right = All (λ l. All (λ r. IsExact e columns l r) right) left

-- columns were appended, and the condition agrees with them over all rows of these widths
pub record HasExact (left right : ℕ) (e : Expression) (old new : List JoinColumns) : Type 0 where
  pub own : List JoinColumns
  pub grown : new ≡ old ++ own
  pub exact : (l r : Row) → length l ≡ left → length r ≡ right → IsExact e own l r

-- ---- when a condition consists of equalities of a left and a right column

-- of the columns of pairs of rows of these widths, the first is the left row's and the second the right row's
abbrev pub is_left_and_right : ℕ → ℕ → ℕ → ℕ → Bool
is_left_and_right left right a b = nat_lt a left && (nat_le left b && nat_lt b (left + right))

-- whether two expressions are columns, one of either row
abbrev pub are_of_both : ℕ → ℕ → Expression → Expression → Bool
are_of_both left right (Column a) (Column b) = is_left_and_right left right a b || is_left_and_right left right b a
are_of_both left right _ _ = false

-- whether a condition is equalities of such columns, joined by AND
abbrev pub are_equalities : ℕ → ℕ → Expression → Bool
are_equalities left right (Compare Equal a b) = are_of_both left right a b
are_equalities left right (And a b) = are_equalities left right a && are_equalities left right b
are_equalities left right _ = false

-- how many values the first row has
abbrev pub width_of : List Row → ℕ
width_of rows = length (row_at rows 0)

-- the rows of either side have one width, and the condition consists of such equalities
pub record IsOfEqualities (e : Expression) (left right : List Row) : Type 0 where
  pub left_even : All (λ row. length row ≡ width_of left) left
  pub right_even : All (λ row. length row ≡ width_of right) right
  pub equalities : are_equalities (width_of left) (width_of right) e ≡ true
