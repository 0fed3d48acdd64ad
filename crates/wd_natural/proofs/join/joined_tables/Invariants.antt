use Rattle.std.proofs.Common.{◌≡◌, ◌-◌, map}
use Rattle.wd_schema.specs.Schemas.{schema_of}
use Rattle.wd_natural.specs.Naturals.{joined_tables, most_tables}
use Rattle.wd_natural.specs.Named.{natural_table}
use Rattle.wd_distinct_on.proofs.ListFacts.{following}
use Rattle.wd_natural.proofs.join.joined_tables.Given as goal

abbrev pub invariant-loop : goal.invariant-loop
invariant-loop l = following (map natural_table l.tables.items) (joined_tables (schema_of l.fn.schema) (most_tables - l.counter) l.rest) ≡ joined_tables (schema_of l.fn.schema) most_tables l.fn.tokens
