-- Where the partition of a position begins and ends among the positions sorted by partition.
use Rattle.std.specs.Prelude.{ℕ, List, count_by, not}
use Rattle.std.specs.declared.cmp.Ordering.{Ordering}
use Rattle.std.specs.Ordering.{is_gt, is_lt}

-- how many of the positions come before p's partition
abbrev pub starts_at : (ℕ → ℕ → Ordering) → List ℕ → ℕ → ℕ
starts_at order grouped p = count_by (λ q. is_lt (order q p)) grouped

-- how many of the positions come before the end of p's partition
abbrev pub ends_at : (ℕ → ℕ → Ordering) → List ℕ → ℕ → ℕ
ends_at order grouped p = count_by (λ q. not (is_gt (order q p))) grouped
