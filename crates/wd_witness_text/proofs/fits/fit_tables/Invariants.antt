use Rattle.std.proofs.Common.{◌≡◌, List, ◌++◌, All, map}
use Rattle.wd_schema.specs.Schemas.{schema_of}
use Rattle.wd_witness_text.specs.Witnesses.{IsTableOf, table_rows}
use Rattle.wd_witness_text.proofs.Tables.{Entry}
use Rattle.wd_witness_text.proofs.fits.fit_tables.Given as goal

abbrev pub invariant-loop-name : goal.invariant-loop-name
invariant-loop-name l = (done : List Entry) × (l.tables.entries ≡ done ++ l.name-iterator) × All (IsTableOf (schema_of l.schema)) (map table_rows done)
