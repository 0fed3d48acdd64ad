use Rattle.std.proofs.Common.{◌≡◌, ℕ, ◌<◌, length, get_or}
use Rattle.wd_sort.specs.declared.ranks.Entry.{Entry}
use Rattle.wd_sort.specs.Ranks.{value_in}
use Rattle.wd_sort.proofs.ranks.sorted_entries.Given as goal

abbrev pub invariant-loop-place : goal.invariant-loop-place
invariant-loop-place l = record {
  long : length l.entries.items ≡ l.place;
  each : (k : ℕ) (d : Entry) → k < l.place → (get_or l.entries.items k d).place ≡ k;
  is : (k : ℕ) (d : Entry) → k < l.place → (get_or l.entries.items k d).value.now ≡ value_in l.values k;
}
