use Rattle.std.proofs.Common.{◌≡◌, ◌&&◌, not, map, filter, take}
use Rattle.wd_schema.specs.Tables.{KeyRule, key_of, table_of}
use Rattle.wd_facts.specs.Given.{gives_row, names_columns}
use Rattle.wd_facts.proofs.tables.null_keys_of.Given as goal

abbrev pub invariant-loop-key : goal.invariant-loop-key
invariant-loop-key l = map (λ k. k.items) l.list.items ≡ map (λ (key : KeyRule). key.columns) (filter (λ (key : KeyRule). names_columns (table_of l.table) key && not (gives_row (table_of l.table) key)) (map key_of (take l.key-index l.table.keys.items)))
