use Rattle.std.proofs.Common.{◌≡◌, ◌&&◌, map, filter, take}
use Rattle.wd_schema.specs.Tables.{KeyRule, key_of, table_of}
use Rattle.wd_step_facts.specs.declared.facts.Member.TheVariants as member
use Rattle.wd_step_facts.specs.Facts.{fact_of}
use Rattle.wd_facts.specs.Given.{gives_row, keys_facts, names_columns}
use Rattle.wd_facts.proofs.tables.row_key_facts.Given as goal

abbrev pub invariant-loop-key : goal.invariant-loop-key
invariant-loop-key l = map fact_of l.list.items ≡ keys_facts member.Row (map (λ (key : KeyRule). key.columns) (filter (λ (key : KeyRule). names_columns (table_of l.table) key && gives_row (table_of l.table) key) (map key_of (take l.key-index l.table.keys.items))))
