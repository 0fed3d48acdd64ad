use Rattle.std.proofs.Common.{◌≡◌, drop, map}
use Rattle.wd_syntax.specs.View.{view_group_item}
use Rattle.wd_resolve_scope.specs.Scopes.{scope_of}
use Rattle.wd_resolve_list.specs.Grouping.{all_grouped, no_groups}
use Rattle.wd_resolve_list.specs.SelectLists.{grouped_by_of}
use Rattle.wd_resolve_list.proofs.grouping.resolve_group_items.Given as goal

abbrev pub invariant-loop-item : goal.invariant-loop-item
invariant-loop-item l = all_grouped (scope_of l.scope) (grouped_by_of l.grouped) (map view_group_item (drop l.item-index l.items)) ≡ all_grouped (scope_of l.scope) no_groups (map view_group_item l.items)
