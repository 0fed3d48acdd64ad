use Rattle.std.proofs.Common.{◌≡◌, ◌≤◌, ◌+◌, ◌++◌, length, map}
use Rattle.wd_membership.specs.Named.{member}
use Rattle.wd_membership.specs.Written.{tables}
use Rattle.wd_membership.proofs.write.add_tables.Given as goal

abbrev pub invariant-loop-rest : goal.invariant-loop-rest
invariant-loop-rest l = record {
  found : l.written.items ++ tables l.table (map member l.rest) ≡ l.initial.written.items ++ tables 1 (map member l.fn.members);
  within : l.table + length l.rest ≤ 1 + length l.fn.members;
}

abbrev pub decreases-loop-rest : goal.decreases-loop-rest
decreases-loop-rest l = length l.rest
