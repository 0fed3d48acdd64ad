use Rattle.std.proofs.Common.{◌≡◌, map, take}
use Rattle.std.specs.Str.{bytes_eq}
use Rattle.std.specs.List.{AllWithin}
use Rattle.csv.specs.Records.{fields_of}
use Rattle.wd_value.specs.Bags.{times}
use Rattle.wd_tables.specs.Data as spec
use Rattle.wd_tables.proofs.header.places_of.Given as goal

abbrev pub invariant-loop-column : goal.invariant-loop-column
invariant-loop-column l = (l.places.items ≡ map (λ column. spec.field_place (fields_of l.header) column.name) (take l.column-index l.columns))
    × AllWithin (λ column. times bytes_eq column.name (fields_of l.header) ≡ 1) l.columns 0 l.column-index
