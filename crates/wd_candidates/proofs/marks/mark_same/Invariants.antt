use Rattle.std.proofs.Common.{◌≡◌, ℕ, ◌<◌, ◌≤◌, ◌||◌, length}
use Rattle.wd_candidates.specs.Marks.{is_marked}
use Rattle.wd_candidates.proofs.marks.mark_same.Given as goal

abbrev pub invariant-loop-column : goal.invariant-loop-column
invariant-loop-column l = record {
  long : length l.marks ≡ length l.initial.marks;
  below : (c : ℕ) → c < l.column → c < length l.initial.marks → is_marked l.marks c ≡ (is_marked l.initial.marks c || is_marked l.others c);
  above : (c : ℕ) → l.column ≤ c → is_marked l.marks c ≡ is_marked l.initial.marks c;
}
