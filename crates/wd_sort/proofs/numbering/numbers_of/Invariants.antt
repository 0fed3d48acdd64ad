use Rattle.std.proofs.Common.{◌≡◌, ℕ, ◌<◌, Some, length, get_or}
use Rattle.wd_value.specs.Rows.{column_of, row_at}
use Rattle.wd_sort.specs.Known.{AreKnown, place_in}
use Rattle.wd_sort.proofs.numbering.numbers_of.Given as goal

abbrev pub invariant-loop-i : goal.invariant-loop-i
invariant-loop-i l = record {
  known : AreKnown l.known;
  long : length l.numbers.items ≡ l.i;
  each : (k : ℕ) → k < l.i → place_in l.known (column_of (row_at l.rows (get_or l.positions k 0)) l.column) ≡ Some (get_or l.numbers.items k 0);
}
