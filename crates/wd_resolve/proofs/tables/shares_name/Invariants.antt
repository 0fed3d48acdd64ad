use Rattle.std.proofs.Common.{◌≡◌, drop}
use Rattle.std.specs.List.{list_any}
use Rattle.wd_resolve_scope.specs.Scopes.{has_table}
use Rattle.wd_resolve.specs.Selected.{from_of, scope_so_far}
use Rattle.wd_resolve.proofs.tables.shares_name.Given as goal

abbrev pub invariant-loop-name : goal.invariant-loop-name
invariant-loop-name l = list_any (has_table (scope_so_far (from_of l.from))) (drop l.name-index l.names) ≡ list_any (has_table (scope_so_far (from_of l.from))) l.names
