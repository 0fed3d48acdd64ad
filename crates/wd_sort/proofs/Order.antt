-- The orders of rows are total, and a stable sort of all positions has each once.
use Rattle.std.proofs.Common.{◌≡◌, ℕ, ◌+◌, ◌<◌, true, false, not, ◌&&◌, List, get_or, length, refl, sym, ap, arith, Ordering, Less, Equal, Greater}
use Rattle.std.specs.List.Sorted.{IsSortedBy}
use Rattle.std.specs.Ordering.{is_lt, nat_cmp, ordering_reverse, ordering_then}
use Rattle.std.specs.Cmp.{IsStrictWeakOrder}
use Rattle.std.proofs.lemmas.Cmp.{nat_cmp_total, on_total, then_total}
use Rattle.std.specs.Cmp.{nat_cmp_is}
use Rattle.std.proofs.lemmas.List.FromFn.{get_or-range_with_len, length-range_with_len}
use Rattle.std.proofs.lemmas.List.Sorted.{ranks_by, ties_stay_sorted}
use Rattle.wd_value.proofs.KeyLaws.{compare_keys_total}
use Rattle.wd_value.specs.Bags.{positions}
use Rattle.wd_value.specs.Rows.{Row, row_at}
use Rattle.wd_value.specs.declared.order.SortColumn.{SortColumn}
use Rattle.wd_sort.specs.Sorting.{IsSortOf, IsStableSortOf, compare_positions, compare_rows_at}

-- ---- total orders

pub positions_order : (columns : List SortColumn) (rows : List Row) → IsStrictWeakOrder (λ p q. is_lt (compare_positions columns rows p q))
positions_order columns rows = ranks_by (then_total (on_total (row_at rows) (compare_keys_total columns)) nat_cmp_total) (λ p. p)

-- positions by their rows
pub rows_order : (columns : List SortColumn) (rows : List Row) → IsStrictWeakOrder (λ p q. is_lt (compare_rows_at columns rows p q))
rows_order columns rows = ranks_by (compare_keys_total columns) (row_at rows)

numbers_order : IsStrictWeakOrder (λ (p : ℕ) (q : ℕ). is_lt (nat_cmp p q))
numbers_order = ranks_by nat_cmp_total (λ (p : ℕ). p)

-- ---- the stable sort of all positions

-- a greater number is not less
not_less : (p q : ℕ) → q < p → is_lt (nat_cmp p q) ≡ false
not_less p q h = ap is_lt (sym (nat_cmp_is p q Greater h))

positions_rise : (n : ℕ) → IsSortedBy (λ p q. is_lt (nat_cmp p q)) (positions n)
positions_rise n = λ k d low high. (
    let long : k + 1 < n = rw (length-range_with_len 0 n) at high in
    let here = get_or-range_with_len 0 n k d (omega arith) in
    let next = get_or-range_with_len 0 n (k + 1) d long in
    not_less (get_or (positions n) (k + 1) d) (get_or (positions n) k d) (omega arith)
    )

pub then_not_less : (o p q : Ordering) → is_lt o ≡ false → q ≡ ordering_reverse o → (not (is_lt q) && not (is_lt o) ≡ true → is_lt p ≡ false) → is_lt (ordering_then o p) ≡ false
then_not_less Less p q e r h = cc
then_not_less Equal p q e r h = h (rw r refl)
then_not_less Greater p q e r h = refl

pub IsSortOf-from_stable : (columns : List SortColumn) (rows : List Row) (order : List ℕ) → IsStableSortOf columns rows (positions (length rows)) order → IsSortOf columns rows order
IsSortOf-from_stable columns rows order s = record {
  each_once = s.rearranged;
  sorted = λ k d low high. (
      let p = get_or order k d in
      let q = get_or order (k + 1) d in
      then_not_less (compare_rows_at columns rows q p) (nat_cmp q p) (compare_rows_at columns rows p q) (s.sorted k d low high)
      ((compare_keys_total columns).antisymm (row_at rows p) (row_at rows q))
      (λ tie. ties_stay_sorted (λ p q. is_lt (nat_cmp p q)) (λ p q. is_lt (compare_rows_at columns rows p q)) numbers_order (rows_order columns rows) (positions (length rows)) order (positions_rise (length rows)) s.stable k d high tie)
      );
}
