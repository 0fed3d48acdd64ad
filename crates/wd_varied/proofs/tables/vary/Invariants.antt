use Rattle.std.proofs.Common.{◌≡◌, map}
use Rattle.std.specs.List.{range_with_len}
use Rattle.wd_schema.specs.Schemas.{schema_of}
use Rattle.wd_value.specs.Rows.{instance_of}
use Rattle.wd_facts.specs.Given.{table_rule}
use Rattle.wd_candidates.specs.Outlines.{fixed_in, scanned_in}
use Rattle.wd_varied.specs.Suggested.{hints_of}
use Rattle.wd_varied.specs.Varied.{fillings, rows_in}
use Rattle.wd_varied.proofs.tables.vary.Given as goal

abbrev pub invariant-loop-table : goal.invariant-loop-table
invariant-loop-table l = instance_of l.instance.items ≡ map (λ t. rows_in (scanned_in l.outline t) (fixed_in l.outline t) (fillings (hints_of l.suggested) (table_rule (schema_of l.schema) t) t l.rows l.number) l.rows) (range_with_len 0 l.table)
