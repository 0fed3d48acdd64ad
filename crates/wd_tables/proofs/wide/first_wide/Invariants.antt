use Rattle.std.proofs.Common.{◌≤◌, drop}
use Rattle.csv.specs.Reading.{strip_bom}
use Rattle.wd_tables.proofs.WideFacts.{IsAt}
use Rattle.wd_tables.proofs.wide.first_wide.Given as goal

abbrev pub invariant-loop-byte : goal.invariant-loop-byte
invariant-loop-byte l = IsAt l.fn.text l.number l.ended l.place (drop l.byte-index (strip_bom l.fn.text)) × (l.number ≤ l.byte-index) × (l.ended ≤ l.byte-index)
