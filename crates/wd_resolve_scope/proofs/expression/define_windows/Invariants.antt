use Rattle.std.proofs.Common.{◌≡◌, drop, map, option_map, []}
use Rattle.wd_syntax.specs.View.{view_named_window}
use Rattle.wd_resolve_scope.specs.Grouped.{grouped_of}
use Rattle.wd_resolve_scope.specs.Resolving.{all_defined}
use Rattle.wd_resolve_scope.specs.Scopes.{scope_of}
use Rattle.wd_resolve_call.specs.Windows.{known_of}
use Rattle.wd_resolve_scope.proofs.expression.define_windows.Given as goal

abbrev pub invariant-loop-window : goal.invariant-loop-window
invariant-loop-window l = all_defined (scope_of l.scope) (option_map grouped_of l.groups) (map known_of l.windows.items) (map view_named_window (drop l.window-index l.written)) ≡ all_defined (scope_of l.scope) (option_map grouped_of l.groups) [] (map view_named_window l.written)
