use Rattle.std.proofs.Common.{◌≡◌, drop}
use Rattle.std.specs.List.{list_all, list_any}
use Rattle.std.specs.Str.{bytes_eq}
use Rattle.wd_schema.proofs.declare.first_unknown.Given as goal

abbrev pub invariant-loop-i : goal.invariant-loop-i
invariant-loop-i l = list_all (λ name. list_any (bytes_eq name) l.columns) (drop l.i l.names) ≡ list_all (λ name. list_any (bytes_eq name) l.columns) l.names
