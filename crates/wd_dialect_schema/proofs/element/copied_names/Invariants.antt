use Rattle.std.proofs.Common.{◌≡◌, map, take}
use Rattle.wd_dialect_read.specs.Said.{identifier_text}
use Rattle.wd_dialect_schema.proofs.element.copied_names.Given as goal

abbrev pub invariant-loop-name : goal.invariant-loop-name
invariant-loop-name l = map identifier_text l.copies.items ≡ map identifier_text (take l.name-index l.names)
