-- Parts of a select as they are read, as pure data.
use Rattle.std.specs.Prelude.{option_map}
use Rattle.wd_using.specs.Named as using
use Rattle.wd_grouping.specs.declared.key.Key.{Key}
use Rattle.wd_grouping.specs.declared.replace.Operand.{Operand}
use Rattle.wd_grouping.specs.declared.select.Grouped.{Grouped}
use Rattle.wd_grouping.specs.declared.source.OneTable.{OneTable}
use Rattle.wd_grouping.specs.Keys.{GroupKey}
use Rattle.wd_grouping.specs.Pieces as pieces
use Rattle.wd_grouping.specs.Replaced as replaced

abbrev pub group_key : Key → GroupKey
group_key key = record { value = key.value.now; name = option_map (λ name. name.now) key.name }

abbrev pub operand : Operand → replaced.Operand
operand found = record { name = found.name.now; count = found.count }

abbrev pub one_table : OneTable → pieces.OneTable
one_table one = record { from = one.from.now; alias = one.alias.now; qualifier = option_map (λ table. table.now) one.qualifier }

abbrev pub grouped_pieces : Grouped → pieces.GroupedPieces
grouped_pieces grouped = record {
  select = using.pieces grouped.select;
  condition = grouped.condition.now;
  group = grouped.group.now;
  by = grouped.by.now;
  keys = grouped.keys.now;
  later = grouped.later.now;
}
