use Rattle.std.proofs.Common.{◌≡◌, ◌+◌, length, true}
use Rattle.wd_amounts.specs.Seen.{known_seen}
use Rattle.wd_clashes.specs.Unlike.{unlike_from}
use Rattle.wd_clashes.proofs.unlike.first_unlike.Given as goal

abbrev pub invariant-loop-rest : goal.invariant-loop-rest
invariant-loop-rest l = record {
  unlike : unlike_from (known_seen l.known) l.count l.begins l.rest ≡ unlike_from (known_seen l.known) 0 true l.fn.tokens;
  counted : l.count + length l.rest ≡ length l.fn.tokens;
}

abbrev pub decreases-loop-rest : goal.decreases-loop-rest
decreases-loop-rest l = length l.rest
