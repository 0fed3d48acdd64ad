use Rattle.std.proofs.Common.{◌≡◌, drop}
use Rattle.std.specs.List.{list_any}
use Rattle.std.specs.Str.{bytes_eq}
use Rattle.wd_resolve_scope.proofs.scope.Scope.has_table.Given as goal

abbrev pub invariant-loop-other : goal.invariant-loop-other
invariant-loop-other l = list_any (bytes_eq l.table) (drop l.other-index l.self.tables.items) ≡ list_any (bytes_eq l.table) l.self.tables.items
