use Rattle.std.proofs.Common.{◌≡◌, ℕ, ◌<◌, false, length}
use Rattle.wd_schema.specs.Schemas.{schema_of}
use Rattle.wd_facts.specs.Given.{table_rule}
use Rattle.wd_candidates.specs.Marks.{is_marked, marks_of}
use Rattle.wd_candidates.proofs.marks.unmarked_tables.Given as goal

abbrev pub invariant-loop-number : goal.invariant-loop-number
invariant-loop-number l = record {
  many : length l.tables.items ≡ l.number;
  long : (table : ℕ) → table < l.number → length (marks_of l.tables.items table) ≡ length (table_rule (schema_of l.schema) table).columns;
  none : (table c : ℕ) → is_marked (marks_of l.tables.items table) c ≡ false;
}
