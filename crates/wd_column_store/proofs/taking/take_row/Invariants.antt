use Rattle.std.proofs.Common.{◌≡◌, ℕ, ◌≤◌, map, take, length, get_or}
use Rattle.wd_value.specs.declared.value.Value.TheVariants.{Null}
use Rattle.wd_value.specs.Rows.{row_at, rows_of}
use Rattle.wd_column_store.specs.Along.{row_along}
use Rattle.wd_column_store.proofs.taking.take_row.Given as goal

abbrev pub invariant-loop-place : goal.invariant-loop-place
invariant-loop-place l = record {
  wide : l.width ≡ length (rows_of l.fn.columns.items);
  row : l.row.items ≡ map (λ column. get_or column l.position Null) (take l.place (rows_of l.fn.columns.items));
  others : (p : ℕ) → (p ≡ l.position → ⊥) → row_along (rows_of l.columns.items) p ≡ row_along (rows_of l.fn.columns.items) p;
  after : (k : ℕ) → l.place ≤ k → row_at (rows_of l.columns.items) k ≡ row_at (rows_of l.fn.columns.items) k;
}
