-- Rows that are the same as an earlier one, and the order in which they stand side by side.
use Rattle.std.specs.Prelude.{◌≡◌, ℕ, ◌+◌, ◌<◌, Bool, true, false, List, length, take, slice_index_or, IsPermutation, IsSorted}
use Rattle.std.specs.Bool.{Decides}
use Rattle.std.specs.List.{list_any}
use Rattle.std.specs.Cmp.Lexicographic.{slice_cmp}
use Rattle.std.specs.declared.cmp.Ordering.{Ordering}
use Rattle.std.specs.Ordering.{nat_cmp, ordering_then, is_eq}
use Rattle.wd_value.specs.Bags.{positions}
use Rattle.wd_value.specs.Order.{compare}
use Rattle.wd_value.specs.Rows.{Row, row_at, same_row}
use Rattle.wd_value.specs.declared.order.SortKey.{SortKey}

-- the row at a position is the same as an earlier one
abbrev pub repeats : List Row → ℕ → Bool
repeats rows p = list_any (λ q. same_row q (row_at rows p)) (take p rows)

-- a mark for each row, which tells whether it repeats an earlier one
pub record AreRepeats (rows : List Row) (marks : List Bool) : Type 0 where
  pub long : length marks ≡ length rows
  pub each : (p : ℕ) → p < length rows → slice_index_or marks p false ≡ repeats rows p

abbrev pub ascending : SortKey
ascending = record { desc = false; nulls_first = false }

-- rows compare at the first value on which they differ, and then by their length
abbrev pub compare_rows : Row → Row → Ordering
compare_rows a b = slice_cmp (compare ascending) a b

abbrev pub are_same : Row → Row → Bool
are_same a b = is_eq (compare_rows a b)

-- positions compare by their rows, and where these tie by their own order
abbrev pub compare_positions : List Row → ℕ → ℕ → Ordering
compare_positions rows p q = ordering_then (compare_rows (row_at rows p) (row_at rows q)) (nat_cmp p q)

-- each position of the rows once, in that order
pub record IsRowSort (rows : List Row) (order : List ℕ) : Type 0 where
  pub each_once : IsPermutation (positions (length rows)) order
  pub sorted : IsSorted (compare_positions rows) order

-- the row at a position is the same as the one that stands right before it among the first n of the order
abbrev pub SameBefore : List Row → List ℕ → ℕ → ℕ → Type 0
SameBefore rows order n p = (j : ℕ) × (j + 1 < n) × (slice_index_or order (j + 1) 0 ≡ p) × (are_same (row_at rows (slice_index_or order j 0)) (row_at rows p) ≡ true)

-- a mark for each row, which tells whether its position is such a one
pub record AreMarked (rows : List Row) (order : List ℕ) (n : ℕ) (marks : List Bool) : Type 0 where
  pub long : length marks ≡ length rows
  pub each : (p : ℕ) → p < length rows → Decides (slice_index_or marks p false) (SameBefore rows order n p)
