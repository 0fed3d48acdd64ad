use Rattle.std.proofs.Common.{◌≡◌, take}
use Rattle.std.specs.List.{flat_map}
use Rattle.wd_formats.specs.Annotations.{part_byte}
use Rattle.wd_formats.proofs.github.escape.Given as goal

abbrev pub invariant-loop-byte : goal.invariant-loop-byte
invariant-loop-byte l = l.more.items ≡ flat_map (part_byte l.part) (take l.byte-index l.text)
