use Rattle.std.proofs.Common.{◌≡◌, drop, map}
use Rattle.wd_schema.specs.Tables.{key_of}
use Rattle.wd_varied.specs.Patterns.{is_telling}
use Rattle.wd_varied.proofs.patterns.is_telling.Given as goal

abbrev pub invariant-loop-key : goal.invariant-loop-key
invariant-loop-key l = is_telling l.number l.column (map key_of (drop l.key-index l.keys)) ≡ is_telling l.number l.column (map key_of l.keys)
