use Rattle.std.proofs.Common.{◌≡◌, [], map, take}
use Rattle.csv.specs.Records.{fields_of, partial_of}
use Rattle.wd_value.specs.Rows.{row_at}
use Rattle.wd_tables.specs.Answers.{value_text}
use Rattle.wd_tables.proofs.answer.put_values.Given as goal

abbrev pub invariant-loop-column : goal.invariant-loop-column
invariant-loop-column l = (fields_of l.fields ≡ map value_text (take l.column (row_at l.rows l.position))) × (partial_of l.fields ≡ [])
