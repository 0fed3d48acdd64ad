use Rattle.std.proofs.Common.{◌≡◌, drop, map}
use Rattle.std.specs.List.{list_all, list_any}
use Rattle.std.specs.Str.{bytes_eq}
use Rattle.wd_schema.specs.Keys.{said}
use Rattle.wd_schema.proofs.declare.unknown_column.Given as goal

abbrev pub invariant-loop-key : goal.invariant-loop-key
invariant-loop-key l = list_all (λ key. list_all (λ name. list_any (bytes_eq name) l.columns) key.columns) (map said (drop l.key-index l.keys)) ≡ list_all (λ key. list_all (λ name. list_any (bytes_eq name) l.columns) key.columns) (map said l.keys)
