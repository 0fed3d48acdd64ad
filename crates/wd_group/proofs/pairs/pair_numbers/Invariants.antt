use Rattle.std.proofs.Common.{◌≡◌, ℕ, ◌<◌, Some, get_or, length}
use Rattle.wd_group.specs.Pairs.{AreApart, number_in}
use Rattle.wd_group.proofs.pairs.pair_numbers.Given as goal

abbrev pub invariant-loop-k : goal.invariant-loop-k
invariant-loop-k l = record {
  apart : AreApart l.met;
  long : length l.codes.items ≡ l.k;
  each : (i : ℕ) → i < l.k → number_in l.met (get_or l.first i 0, get_or l.second i 0) ≡ Some (get_or l.codes.items i 0);
}
