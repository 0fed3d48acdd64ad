use Rattle.std.proofs.Common.{◌≡◌, ℕ, ◌+◌, ◌*◌, ◌<◌, length, get_or}
use Rattle.wd_sort.proofs.codes.pack_wide.Given as goal

abbrev pub invariant-loop-place : goal.invariant-loop-place
invariant-loop-place l = record {
  long : length l.numbers.items ≡ l.place;
  each : (k : ℕ) → k < l.place → get_or l.numbers.items k 0 ≡ get_or l.codes k 0 * length l.codes + k;
}
