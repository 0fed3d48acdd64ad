use Rattle.std.proofs.Common.{◌≡◌, drop, filter, length, option_map, zip}
use Rattle.std.specs.List.{range_with_len}
use Rattle.wd_resolve_scope.specs.Names.{column_named}
use Rattle.wd_resolve_scope.specs.Scopes.{carries, scope_of}
use Rattle.wd_resolve_scope.proofs.Naming.{with_found}
use Rattle.wd_resolve_scope.proofs.scope.Scope.column.Given as goal

abbrev pub invariant-loop-number : goal.invariant-loop-number
invariant-loop-number l =
    with_found l.found (filter (λ c. carries (option_map (λ t. t.now) l.table) l.name c.1) (zip (range_with_len l.number (length (drop l.number l.self.columns.items))) (drop l.number l.self.columns.items)))
    ≡ column_named (scope_of l.self) (option_map (λ t. t.now) l.table) l.name
