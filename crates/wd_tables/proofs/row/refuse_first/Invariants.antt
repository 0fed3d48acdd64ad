use Rattle.std.proofs.Common.{◌≡◌, ℕ, List, map}
use Rattle.csv.specs.Records.{fields_of}
use Rattle.wd_tables.specs.Data.{field_place}
use Rattle.wd_tables.proofs.RefusedFacts.{IsFirstOf}
use Rattle.wd_tables.proofs.row.refuse_first.Given as goal

abbrev pub invariant-loop-c : goal.invariant-loop-c
invariant-loop-c l = (header : List (List ℕ)) → l.places ≡ map (λ column. field_place header column.name) l.columns → IsFirstOf l.columns header (fields_of l.fields) l.number l.c l.first
