use Rattle.std.proofs.Common.{◌≡◌, flat_map, string_bytes}
use Rattle.wd_markup.specs.Escapes.{escaped_char}
use Rattle.wd_markup.proofs.escape.escape_chars.Given as goal

abbrev pub invariant-loop-c : goal.invariant-loop-c
invariant-loop-c l = string_bytes l.more ≡ flat_map escaped_char l.yielded
