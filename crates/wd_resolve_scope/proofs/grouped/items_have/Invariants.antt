use Rattle.std.proofs.Common.{◌≡◌, drop, map}
use Rattle.std.specs.List.{list_any}
use Rattle.wd_syntax.specs.View.{view_item}
use Rattle.wd_resolve_scope.specs.Grouped.{item_has}
use Rattle.wd_resolve_scope.proofs.grouped.items_have.Given as goal

abbrev pub invariant-loop-item : goal.invariant-loop-item
invariant-loop-item l = list_any item_has (map view_item (drop l.item-index l.items)) ≡ list_any item_has (map view_item l.items)
