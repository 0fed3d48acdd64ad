use Rattle.std.proofs.Common.{◌≡◌, drop, map}
use Rattle.std.specs.List.{list_any}
use Rattle.wd_read_cursor.specs.declared.name.Name.{Name}
use Rattle.wd_syntax.specs.Tree.{WindowTree}
use Rattle.wd_syntax.specs.View.{view_named_window}
use Rattle.wd_resolve_scope.specs.Grouped.{window_has}
use Rattle.wd_resolve_scope.proofs.grouped.windows_have.Given as goal

abbrev pub invariant-loop-window : goal.invariant-loop-window
invariant-loop-window l = list_any (λ (w : Name × WindowTree). window_has w.1) (map view_named_window (drop l.window-index l.windows)) ≡ list_any (λ (w : Name × WindowTree). window_has w.1) (map view_named_window l.windows)
