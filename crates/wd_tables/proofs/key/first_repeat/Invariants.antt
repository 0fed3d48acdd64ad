use Rattle.std.proofs.Common.{map, take}
use Rattle.wd_schema.specs.Tables.{key_of}
use Rattle.wd_tables.specs.Causes.{IsLeast, Repeats}
use Rattle.wd_tables.proofs.key.first_repeat.Given as goal

abbrev pub invariant-loop-key : goal.invariant-loop-key
invariant-loop-key l = IsLeast (Repeats (map key_of (take l.key-index l.keys)) l.rows) l.first
