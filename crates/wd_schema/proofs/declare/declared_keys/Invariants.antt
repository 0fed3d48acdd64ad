use Rattle.std.proofs.Common.{◌≡◌, ◌++◌, drop, map}
use Rattle.wd_schema.specs.Declares.{key_declared}
use Rattle.wd_schema.specs.Keys.{said}
use Rattle.wd_schema.specs.Tables.{key_of}
use Rattle.wd_schema.proofs.declare.declared_keys.Given as goal

abbrev pub invariant-loop-key : goal.invariant-loop-key
invariant-loop-key l = map key_of l.declared.items ++ map (key_declared l.columns) (map said (drop l.key-index l.keys)) ≡ map (key_declared l.columns) (map said l.keys)
