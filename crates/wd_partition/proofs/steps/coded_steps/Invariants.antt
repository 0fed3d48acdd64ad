use Rattle.std.proofs.Common.{◌≡◌, ℕ, ◌<◌, length, get_or, Some}
use Rattle.wd_partition.specs.declared.steps.Step.{Step}
use Rattle.wd_partition.specs.Steps.{compare_codes, step_to}
use Rattle.wd_partition.proofs.steps.coded_steps.Given as goal

abbrev pub invariant-loop-i : goal.invariant-loop-i
invariant-loop-i l = record {
  long : length l.steps.items ≡ l.i;
  each : (k : ℕ) (d : Step) → k < l.i → step_to (compare_codes l.by_partition) (compare_codes l.by_keys) l.positions k ≡ Some (get_or l.steps.items k d);
}
