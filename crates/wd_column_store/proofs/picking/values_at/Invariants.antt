use Rattle.std.proofs.Common.{◌≡◌, ℕ, ◌<◌, ◌≤◌, take, length, get_or}
use Rattle.wd_value.specs.declared.value.Value.TheVariants.{Null}
use Rattle.wd_column_store.specs.Along.{values_at}
use Rattle.wd_column_store.proofs.picking.values_at.Given as goal

abbrev pub invariant-loop-i : goal.invariant-loop-i
invariant-loop-i l = record {
  picked : l.picked.items ≡ values_at l.fn.column.items (take l.i l.positions);
  left : (k : ℕ) → l.i ≤ k → k < length l.positions → get_or l.left.items (get_or l.positions k 0) Null ≡ get_or l.fn.column.items (get_or l.positions k 0) Null;
}
