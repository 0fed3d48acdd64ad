-- Parts of a FROM clause as they are read, as pure data.
use Rattle.std.specs.Prelude.{map, option_map}
use Rattle.wd_natural.specs.declared.join.Head.{Head}
use Rattle.wd_natural.specs.declared.join.Joined.{Joined}
use Rattle.wd_natural.specs.Naturals as spec

abbrev pub join_head : Head → spec.Head
join_head head = record { natural = option_map (λ word. word.now) head.natural; join = head.join.now; after = head.after.now }

abbrev pub natural_table : Joined → spec.NaturalTable
natural_table joined = record {
  natural = option_map (λ word. word.now) joined.natural;
  join = joined.join.now;
  table = joined.table.now;
  columns = map (λ column. column.now) joined.columns.items;
  rest = joined.rest.now;
}
