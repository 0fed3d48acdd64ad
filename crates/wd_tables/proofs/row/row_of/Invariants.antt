use Rattle.std.proofs.Common.{◌≡◌, ℕ, List, true, map, take, Some}
use Rattle.csv.specs.Records.{fields_of}
use Rattle.wd_schema.specs.Meets.{fits_columns}
use Rattle.wd_tables.specs.Data.{field_place, values_in}
use Rattle.wd_tables.proofs.row.row_of.Given as goal

abbrev pub invariant-loop-c : goal.invariant-loop-c
invariant-loop-c l =
    ((header : List (List ℕ)) → l.places ≡ map (λ column. field_place header column.name) l.columns → values_in (take l.c l.columns) header (fields_of l.fields) ≡ map (λ v. Some v) l.row.items)
    × (fits_columns (take l.c l.columns) l.row.items ≡ true)
