use Rattle.std.proofs.Common.{◌≡◌, map, take}
use Rattle.wd_read_statements.specs.Written.{name_text}
use Rattle.wd_schema.proofs.declare.texts_of.Given as goal

abbrev pub invariant-loop-name : goal.invariant-loop-name
invariant-loop-name l = l.texts.items ≡ map name_text (take l.name-index l.names)
