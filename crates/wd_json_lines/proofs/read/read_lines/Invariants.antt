use Rattle.std.proofs.Common.{◌+◌, ◌≤◌, length, map}
use Rattle.wd_json_lines.proofs.Reading.{AreReadUpTo}
use Rattle.wd_json_lines.proofs.read.read_lines.Given as goal

abbrev pub invariant-loop-rest : goal.invariant-loop-rest
invariant-loop-rest g l = record {
  read : AreReadUpTo g.T.InLine.json l.fn.bytes l.rest (map g.T.InLine.said l.found.items);
  within : length l.found.items + length l.rest ≤ length l.fn.bytes;
}

abbrev pub decreases-loop-rest : goal.decreases-loop-rest
decreases-loop-rest g l = length l.rest
