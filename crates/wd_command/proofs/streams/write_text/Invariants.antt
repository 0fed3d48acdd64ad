use Rattle.std.proofs.Common.{◌≤◌, length, take}
use Rattle.std.specs.Io.KnownBytes.{Appends}
use Rattle.wd_command.proofs.streams.write_text.Given as goal

abbrev pub invariant-loop : goal.invariant-loop
invariant-loop g l = record {
  written : Appends (g.O.Write.contents l.initial.out) (g.O.Write.contents l.out) (take l.at l.text);
  within : l.at ≤ length l.text;
}
