use Rattle.std.proofs.Common.{◌≡◌, drop, map, option_map}
use Rattle.wd_syntax.specs.View.{view_item}
use Rattle.wd_resolve_scope.specs.Scopes.{scope_of}
use Rattle.wd_resolve_call.specs.Windows.{known_of}
use Rattle.wd_resolve_scope.specs.declared.context.Place.TheVariants as place
use Rattle.wd_resolve_list.specs.Grouping.{below_of, grouped_rule}
use Rattle.wd_resolve_list.specs.Outputs.{listed, list_meant, output_of}
use Rattle.wd_resolve.specs.ReadLists.{IsCounted}
use Rattle.wd_resolve.proofs.select.resolve_list.Given as goal

abbrev pub invariant-loop-item : goal.invariant-loop-item
invariant-loop-item l = record {
  meant : listed (below_of l.listed.below) (record { scope = scope_of l.scope; groups = option_map grouped_rule (below_of l.listed.below).grouped; windows = map known_of l.windows; place = place.SelectList }) (map view_item (drop l.item-index l.items)) (map output_of l.listed.outputs.items)
      ≡ list_meant (below_of l.initial.listed.below) (record { scope = scope_of l.scope; groups = option_map grouped_rule (below_of l.initial.listed.below).grouped; windows = map known_of l.windows; place = place.SelectList }) (map view_item l.items);
  below : below_of l.listed.below ≡ below_of l.initial.listed.below;
  counted : IsCounted l.listed;
}
