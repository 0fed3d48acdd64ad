-- Parts of a select as they are read, as pure data.
use Rattle.std.specs.Prelude.{map}
use Rattle.wd_using.specs.declared.source.Alias.{Alias}
use Rattle.wd_using.specs.declared.join.Condition.{Condition}
use Rattle.wd_using.specs.declared.join.Joined.{Joined}
use Rattle.wd_using.specs.declared.source.Source.{Source}
use Rattle.wd_using.specs.declared.merge.Merged.{Merged}
use Rattle.wd_using.specs.declared.select.Select.{Select}
use Rattle.wd_using.specs.Joins as spec
use Rattle.wd_using.specs.Merged.{MergedColumn}
use Rattle.wd_using.specs.Pieces.{Pieces}

abbrev pub table_alias : Alias → spec.Alias
table_alias alias = record { count = alias.count; name = alias.name.now }

abbrev pub table_source : Source → spec.Source
table_source source = record { columns = map (λ column. column.now) source.columns.items; alias = table_alias source.alias }

abbrev pub join_condition : Condition → spec.Condition
join_condition condition = record { word = condition.word.now; names = map (λ name. name.now) condition.names.items; rest = condition.rest.now }

abbrev pub joined_table : Joined → spec.JoinedTable
joined_table joined = record { join = joined.join.now; table = joined.table.now; alias = joined.alias.now; columns = map (λ column. column.now) joined.columns.items; condition = join_condition joined.condition }

abbrev pub merged_column : Merged → MergedColumn
merged_column merged = record { name = merged.name.now; table = merged.table.now }

abbrev pub pieces : Select → Pieces
pieces select = record {
  select = select.select.now;
  distinct = select.distinct.now;
  items = select.items.now;
  tables = select.tables.now;
  clauses = select.clauses.now;
  after = select.after.now;
}
