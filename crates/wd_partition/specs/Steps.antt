-- How neighbours relate to one another among the positions sorted by partition.
use Rattle.std.specs.Prelude.{Bool, true, false, ◌+◌, ◌≡◌, ℕ, zero, suc, ◌<◌, List, length, slice_index, slice_index_or, Option, Some, None}
use Rattle.std.specs.declared.cmp.Ordering.{Ordering}
use Rattle.std.specs.Ordering.{nat_cmp}
use Rattle.std.specs.declared.cmp.Ordering.TheVariants.{Less, Equal, Greater}
use Rattle.wd_partition.specs.declared.steps.Step.{Step}
use Rattle.wd_partition.specs.declared.steps.Step.TheVariants.{Partition, Group, Peer}

-- the step within a partition, by the order of the keys of the place before and of the place itself; none where they decrease
abbrev pub key_step : Ordering → Option Step
key_step Less = Some Group
key_step Equal = Some Peer
key_step Greater = None

-- the step by the order of the partitions and of the keys
abbrev pub step_by : Ordering → Ordering → Option Step
step_by Less keys = Some Partition
step_by Equal keys = key_step keys
step_by Greater keys = Some Partition

-- the step to a place of a list; the first begins a partition
abbrev pub step_to : (ℕ → ℕ → Ordering) → (ℕ → ℕ → Ordering) → List ℕ → ℕ → Option Step
step_to by_partition by_keys list zero = Some Partition
step_to by_partition by_keys list (suc i) = step_by (by_partition (slice_index list i) (slice_index list (suc i))) (by_keys (slice_index list i) (slice_index list (suc i)))

-- the steps to all places
pub record AreSteps (by_partition by_keys : ℕ → ℕ → Ordering) (list : List ℕ) (steps : List Step) : Type 0 where
  pub long : length steps ≡ length list
  pub each : (i : ℕ) (d : Step) → i < length list → step_to by_partition by_keys list i ≡ Some (slice_index_or steps i d)

-- whether the step begins a partition
abbrev pub begins_partition : Step → Bool
begins_partition Partition = true
begins_partition Group = false
begins_partition Peer = false

-- the peer group number at a place, from the number at the place before: 0 where a partition begins, one more where a group begins
abbrev pub group_after : Step → ℕ → ℕ
group_after Partition group = 0
group_after Group group = group + 1
group_after Peer group = group

-- positions compare by the numbers at them; past the last position the number is 0
abbrev pub compare_codes : List ℕ → ℕ → ℕ → Ordering
compare_codes codes p q = nat_cmp (slice_index codes p) (slice_index codes q)
