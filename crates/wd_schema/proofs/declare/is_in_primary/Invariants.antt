use Rattle.std.proofs.Common.{◌≡◌, drop, map}
use Rattle.wd_schema.specs.Declares.{is_in_primary}
use Rattle.wd_schema.specs.Keys.{said}
use Rattle.wd_schema.proofs.declare.is_in_primary.Given as goal

abbrev pub invariant-loop-key : goal.invariant-loop-key
invariant-loop-key l = is_in_primary (map said (drop l.key-index l.keys)) l.name ≡ is_in_primary (map said l.keys) l.name
