use Rattle.std.proofs.Common.{◌≡◌, ℕ, ◌+◌, ◌≤◌, map, take, get_or}
use Rattle.wd_partition.specs.Indexed.{class_of}
use Rattle.wd_partition.specs.Members.{own_group}
use Rattle.wd_partition.proofs.groups.group_numbers.Given as goal

abbrev pub invariant-loop-i : goal.invariant-loop-i
invariant-loop-i l = record {
  items : l.groups.items ≡ map (own_group (class_of l.indexed) l.indexed.rows.now l.indexed.positions.now) (take l.i l.indexed.positions.now);
  before : (k : ℕ) → k + 1 ≡ l.i → l.group ≡ own_group (class_of l.indexed) l.indexed.rows.now l.indexed.positions.now (get_or l.indexed.positions.now k 0);
  small : l.group ≤ l.i;
}
