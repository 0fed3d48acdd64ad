use Rattle.std.proofs.Common.{◌≡◌, ◌++◌, Ok, drop}
use Rattle.wd_resolve_operand.specs.Causes.{◌>>=◌}
use Rattle.wd_resolve_scope.specs.Scopes.{scope_of}
use Rattle.wd_resolve_list.specs.Grouping.{group_columns}
use Rattle.wd_resolve_list.proofs.grouping.group_columns.Given as goal

abbrev pub invariant-loop-column : goal.invariant-loop-column
invariant-loop-column l = (group_columns (scope_of l.scope) (drop l.column-index l.columns) >>= λ ns. Ok (l.numbers.items ++ ns)) ≡ group_columns (scope_of l.scope) l.columns
