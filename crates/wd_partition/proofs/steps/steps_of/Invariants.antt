use Rattle.std.proofs.Common.{◌≡◌, ℕ, ◌<◌, length, get_or, Some}
use Rattle.wd_sort.specs.Sorting.{compare_rows_at}
use Rattle.wd_partition.specs.declared.steps.Step.{Step}
use Rattle.wd_partition.specs.Steps.{step_to}
use Rattle.wd_partition.proofs.steps.steps_of.Given as goal

abbrev pub invariant-loop-i : goal.invariant-loop-i
invariant-loop-i l = record {
  long : length l.steps.items ≡ l.i;
  each : (k : ℕ) (d : Step) → k < l.i → step_to (compare_rows_at l.by_partition l.rows) (compare_rows_at l.by_keys l.rows) l.positions k ≡ Some (get_or l.steps.items k d);
}
