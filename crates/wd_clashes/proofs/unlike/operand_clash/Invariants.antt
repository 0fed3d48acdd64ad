use Rattle.std.proofs.Common.{◌≡◌, ◌+◌, ◌≤◌, length}
use Rattle.wd_amounts.specs.Seen.{known_seen}
use Rattle.wd_clashes.specs.Unlike.{clash_from, operand_clash}
use Rattle.wd_clashes.proofs.unlike.operand_clash.Given as goal

abbrev pub invariant-loop-rest : goal.invariant-loop-rest
invariant-loop-rest l = record {
  clash : clash_from (known_seen l.known) l.here l.rest ≡ operand_clash (known_seen l.known) l.count l.fn.tokens;
  placed : l.here.place + length l.rest ≡ l.count + length l.fn.tokens;
  shallow : l.here.depth ≤ l.here.place;
}

abbrev pub decreases-loop-rest : goal.decreases-loop-rest
decreases-loop-rest l = length l.rest
