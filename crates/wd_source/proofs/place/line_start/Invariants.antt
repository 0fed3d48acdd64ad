use Rattle.std.proofs.Common.{◌≡◌, ℕ, ◌<◌, ◌≤◌, get_or}
use Rattle.wd_source.proofs.place.line_start.Given as goal

-- no line feed stands between
abbrev pub invariant-loop-start : goal.invariant-loop-start
invariant-loop-start l = record {
  before : l.start ≤ l.place;
  whole : (k : ℕ) → l.start ≤ k → k < l.place → get_or l.text k 0 ≡ 10 → ⊥;
}

abbrev pub decreases-loop-start : goal.decreases-loop-start
decreases-loop-start l = l.start
