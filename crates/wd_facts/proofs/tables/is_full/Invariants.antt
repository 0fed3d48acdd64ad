use Rattle.std.proofs.Common.{◌≡◌, drop}
use Rattle.std.specs.List.{list_all}
use Rattle.wd_facts.specs.Given.{is_not_null_column}
use Rattle.wd_facts.proofs.tables.is_full.Given as goal

abbrev pub invariant-loop-column : goal.invariant-loop-column
invariant-loop-column l = list_all (is_not_null_column l.table.columns.items) (drop l.column-index l.key.columns.items) ≡ list_all (is_not_null_column l.table.columns.items) l.key.columns.items
