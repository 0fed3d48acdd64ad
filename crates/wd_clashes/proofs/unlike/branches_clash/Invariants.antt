use Rattle.std.proofs.Common.{◌≡◌, ◌+◌, ◌≤◌, length}
use Rattle.wd_amounts.specs.Seen.{known_seen}
use Rattle.wd_clashes.specs.Unlike.{branch_from, branches_clash}
use Rattle.wd_clashes.proofs.unlike.branches_clash.Given as goal

abbrev pub invariant-loop-rest : goal.invariant-loop-rest
invariant-loop-rest l = record {
  clash : branch_from (known_seen l.known) l.place l.depth l.unit l.rest ≡ branches_clash (known_seen l.known) l.count l.fn.inside;
  placed : l.place + length l.rest ≡ l.count + length l.fn.inside;
  shallow : l.depth ≤ l.place;
}

abbrev pub decreases-loop-rest : goal.decreases-loop-rest
decreases-loop-rest l = length l.rest
