use Rattle.std.proofs.Common.{◌≡◌, flat_map, string_bytes}
use Rattle.wd_lines.specs.Lines.{plain_char}
use Rattle.wd_lines.proofs.values.plain.Given as goal

abbrev pub invariant-loop-c : goal.invariant-loop-c
invariant-loop-c l = string_bytes l.line ≡ flat_map plain_char l.yielded
