use Rattle.std.proofs.Common.{◌≡◌, ℕ, ◌<◌, ◌≤◌, ◌-◌, length, get_or}
use Rattle.wd_source.proofs.place.line_end.Given as goal

-- no line feed stands between
abbrev pub invariant-loop-end : goal.invariant-loop-end
invariant-loop-end l = record {
  after : l.place ≤ l.end;
  within : l.end ≤ length l.text;
  whole : (k : ℕ) → l.place ≤ k → k < l.end → get_or l.text k 0 ≡ 10 → ⊥;
}

abbrev pub decreases-loop-end : goal.decreases-loop-end
decreases-loop-end l = length l.text - l.end
