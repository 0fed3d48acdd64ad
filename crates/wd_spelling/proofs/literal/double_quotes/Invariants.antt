use Rattle.std.proofs.Common.{◌≡◌, flat_map, string_bytes}
use Rattle.wd_spelling.specs.Spelling.{quoted_char}
use Rattle.wd_spelling.proofs.literal.double_quotes.Given as goal

abbrev pub invariant-loop-c : goal.invariant-loop-c
invariant-loop-c l = string_bytes l.inner ≡ flat_map quoted_char l.yielded
