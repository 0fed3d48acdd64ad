use Rattle.std.proofs.Common.{◌≡◌, ◌≤◌, ◌+◌, ◌++◌, length, map}
use Rattle.wd_membership.specs.Named.{membership, pair}
use Rattle.wd_membership.specs.Written.{items}
use Rattle.wd_membership.proofs.write.add_items.Given as goal

abbrev pub invariant-loop-pairs : goal.invariant-loop-pairs
invariant-loop-pairs l = record {
  found : l.written.items ++ items (membership l.fn.membership) l.fn.table l.column (map pair l.pairs) ≡ l.initial.written.items ++ items (membership l.fn.membership) l.fn.table 1 (map pair l.fn.membership.pairs.items);
  within : l.column + length l.pairs ≤ 1 + length l.fn.membership.pairs.items;
}

abbrev pub decreases-loop-pairs : goal.decreases-loop-pairs
decreases-loop-pairs l = length l.pairs
