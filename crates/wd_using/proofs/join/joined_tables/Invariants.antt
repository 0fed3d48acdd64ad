use Rattle.std.proofs.Common.{◌≡◌, ◌-◌, map}
use Rattle.wd_schema.specs.Schemas.{schema_of}
use Rattle.wd_using.specs.Joins.{joined_tables, most_tables}
use Rattle.wd_using.specs.Named.{joined_table}
use Rattle.wd_distinct_on.proofs.ListFacts.{following}
use Rattle.wd_using.proofs.join.joined_tables.Given as goal

abbrev pub invariant-loop : goal.invariant-loop
invariant-loop l = following (map joined_table l.tables.items) (joined_tables (schema_of l.fn.schema) (most_tables - l.counter) l.rest) ≡ joined_tables (schema_of l.fn.schema) most_tables l.fn.tokens
