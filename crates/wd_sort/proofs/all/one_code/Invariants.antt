use Rattle.std.proofs.Common.{◌≡◌, ℕ, ◌<◌, get_or, length}
use Rattle.wd_sort.proofs.all.one_code.Given as goal

abbrev pub invariant-loop : goal.invariant-loop
invariant-loop l = record {
  long : length l.codes.items ≡ l.counter;
  zeros : (p : ℕ) → p < l.counter → get_or l.codes.items p 0 ≡ 0;
}
