use Rattle.std.proofs.Common.{drop}
use Rattle.csv.specs.Reading.{strip_bom}
use Rattle.wd_tables.proofs.WideFacts.{IsIn}
use Rattle.wd_tables.proofs.wide.has_text_header.Given as goal

abbrev pub invariant-loop-byte : goal.invariant-loop-byte
invariant-loop-byte l = IsIn l.fn.text l.place l.field.items (drop l.byte-index (strip_bom l.fn.text))
