use Rattle.std.proofs.Common.{◌≡◌, drop, length, nat_lt}
use Rattle.std.specs.List.{list_all}
use Rattle.wd_facts.proofs.tables.names_columns.Given as goal

abbrev pub invariant-loop-column : goal.invariant-loop-column
invariant-loop-column l = list_all (λ c. nat_lt c (length l.table.columns.items)) (drop l.column-index l.key.columns.items) ≡ list_all (λ c. nat_lt c (length l.table.columns.items)) l.key.columns.items
